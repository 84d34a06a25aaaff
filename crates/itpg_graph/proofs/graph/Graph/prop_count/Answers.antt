use Rattle.std.proofs.Common.{◌≡◌, ◌∙◌, ◌≤◌, Some, ap, length, refl, sym, subst}
use Rattle.std.specs.Prelude.{slice_get}
use Rattle.std.proofs.lemmas.Option.{slice_get_read}
use Rattle.itpg_base.specs.Graphs.{Stands}
use Rattle.itpg_graph.proofs.Views.{is_within}
use Rattle.itpg_graph.proofs.graph.Graph.prop_count.Goals as goal

pub returns-clause-few : goal.returns-clause-few
returns-clause-few c =
    let items = c.self.inside.objects.items in
    let within = is_within c.self.inside.opened items c.args.o.0 _ (subst (λ g. Stands g c.args.o.0) (sym c.self.view_is) c.requires) in
    let at : slice_get items c.args.o.0 ≡ Some c.index.result.now = slice_get_read items (length items) c.args.o.0 c.index.result.now refl within c.index.ensures in
    subst (λ n. n ≤ 64) (sym (c.count.ensures ∙ ap length c.as_record.ensures.properties)) ((c.self.invariant.store.good.objects c.args.o.0 c.index.result.now at).few_properties)
