use Rattle.std.proofs.Common.{◌≡◌, Some, length, refl, sym, subst}
use Rattle.std.specs.Prelude.{slice_get, IfSome}
use Rattle.std.proofs.lemmas.Option.{slice_get_read}
use Rattle.itpg_base.specs.Graphs.{Stands}
use Rattle.itpg_graph.specs.Kinds.{IsNode}
use Rattle.itpg_graph.proofs.Views.{is_within, ends_nodes}
use Rattle.itpg_graph.proofs.graph.Graph.ends.Goals as goal

pub returns-clause-nodes : goal.returns-clause-nodes
returns-clause-nodes c =
    let items = c.self.inside.objects.items in
    let o = c.args.o.0 in
    let s = c.index.result.now in
    let stands = subst (λ g. Stands g o) (sym c.self.view_is) c.requires in
    let at : slice_get items o ≡ Some s = slice_get_read items (length items) o s refl (is_within c.self.inside.opened items o _ stands) c.index.ensures in
    subst (λ g. IfSome c.ends.result (λ n. IsNode g n.0.0 × IsNode g n.1.0)) c.self.view_is (ends_nodes c.self.inside.opened items o s at stands c.self.invariant.store.good c.ends.result c.ends.ensures)
