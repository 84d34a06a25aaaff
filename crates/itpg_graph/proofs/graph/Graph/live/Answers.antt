use Rattle.std.proofs.Common.{◌≡◌, ◌≤◌, List, Some, length, refl, sym, subst}
use Rattle.std.specs.Prelude.{slice_get}
use Rattle.std.proofs.lemmas.Option.{slice_get_read}
use Rattle.itpg_base.specs.Spans.{Span}
use Rattle.itpg_base.specs.Graphs.{Stands}
use Rattle.itpg_graph.proofs.Views.{few_spans, is_within}
use Rattle.itpg_graph.proofs.graph.Graph.live.Goals as goal

pub returns-clause-few : goal.returns-clause-few
returns-clause-few c =
    let at : slice_get c.self.inside.objects.items c.args.o.0 ≡ Some c.index.result.now = slice_get_read c.self.inside.objects.items (length c.self.inside.objects.items) c.args.o.0 c.index.result.now refl (is_within c.self.inside.opened c.self.inside.objects.items c.args.o.0 _ (subst (λ g. Stands g c.args.o.0) (sym c.self.view_is) c.requires)) c.index.ensures in
    subst (λ (live : List Span). length live ≤ 4096) (sym c.as_record.ensures.live) (few_spans c.self.inside.opened c.self.inside.objects.items c.args.o.0 c.index.result.now c.self.invariant.store.good at)
