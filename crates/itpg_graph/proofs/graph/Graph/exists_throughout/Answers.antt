use Rattle.std.proofs.Common.{◌≡◌, Some, length, refl, sym, ◌∙◌, subst, true≢false}
use Rattle.std.specs.Prelude.{slice_get}
use Rattle.std.proofs.lemmas.Option.{slice_get_read}
use Rattle.itpg_base.specs.Spans.{Covers}
use Rattle.itpg_base.specs.Graphs.{Object, Stands, Exists}
use Rattle.itpg_base.proofs.Objects.{there, same_some}
use Rattle.itpg_graph.specs.Stores.{graph_of}
use Rattle.itpg_graph.proofs.Asked.{uncovered}
use Rattle.itpg_graph.proofs.Views.{is_within}
use Rattle.itpg_graph.proofs.graph.Graph.exists_throughout.Goals as goal

pub returns-clause-missing : goal.returns-clause-missing
returns-clause-missing c = λ e.
    let g = graph_of c.self.inside.opened c.self.inside.objects.items in
    let x = c.index.result.now in
    let at : slice_get g.objects c.args.o.0 ≡ Some x = slice_get_read c.self.inside.objects.items (length c.self.inside.objects.items) c.args.o.0 x refl (is_within c.self.inside.opened c.self.inside.objects.items c.args.o.0 _ (subst (λ h. Stands h c.args.o.0) (sym c.self.view_is) c.requires)) c.index.ensures in
    let m = uncovered x.live c.args.s (λ all. absurd (true≢false (sym (c.covers.ensures.1 all) ∙ e))) in (
      m.0,
      m.1,
      λ exists.
          let found = there g.objects c.args.o.0 _ (subst (λ h. Exists h c.args.o.0 m.0) (sym c.self.view_is) exists) in
          m.2 (subst (λ (y : Object). Covers y.live m.0) (same_some _ _ (slice_get g.objects c.args.o.0) found.1 at) found.2),
    )
