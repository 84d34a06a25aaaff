use Rattle.std.proofs.Common.{◌≡◌, ℕ, ℤ, Some, length, refl, sym, subst}
use Rattle.std.specs.Prelude.{slice_get, slice_set}
use Rattle.std.proofs.lemmas.Option.{slice_get_read}
use Rattle.itpg_base.specs.Spans.{Within}
use Rattle.itpg_base.specs.Graphs.{Graph, Stands, HasEnd, InHorizon, Exists}
use Rattle.itpg_graph.specs.Changes.{FitFamily, JoinsLive}
use Rattle.itpg_graph.specs.Links.{links_of}
use Rattle.itpg_graph.specs.LabelLists.{held}
use Rattle.itpg_graph.specs.Stores.{graph_of}
use Rattle.itpg_graph.proofs.Labels.{labels_written}
use Rattle.itpg_graph.proofs.Views.{joins, joined_store, is_within, live_shape}
use Rattle.itpg_graph.proofs.graph.Graph.join_live.Goals as goal

pub invariant_of-self-2 : goal.invariant_of-self-2
invariant_of-self-2 c =
    let at : slice_get c.self.inside.objects.items c.args.o.0 ≡ Some c.index_mut-object.result.now = slice_get_read c.self.inside.objects.items (length c.self.inside.objects.items) c.args.o.0 c.index_mut-object.result.now refl (is_within c.self.inside.opened c.self.inside.objects.items c.args.o.0 _ (subst (λ g. Stands g c.args.o.0) (sym c.self.view_is) c.requires.stands)) c.index_mut-object.ensures.value in
    let is = sym c.self.view_is in
    let o = c.args.o.0 in
    let join = c.in_ok-join_live.ensures.ok in
    let store = joined_store c.self.inside.opened c.self.inside.objects.items o c.index_mut-object.result.now at c.args.s c.join_live.new.self join c.self.inside.numbers (links_of c.self.inside.out) (links_of c.self.inside.into) c.self.invariant.store
    (subst (λ g. Stands g o) is c.requires.stands)
    (subst (λ g. (t : ℤ) → Within t c.args.s → InHorizon g t) is c.requires.within)
    (subst (λ g. (a : ℕ) → HasEnd g o a → (t : ℤ) → Within t c.args.s → Exists g a t) is c.requires.ends)
    (subst (λ g. FitFamily g o c.args.s) is c.requires.room) in
    record { store = store; labels = labels_written c.self.inside.opened c.self.inside.objects.items o c.index_mut-object.result.now c.join_live.new.self (λ x. record x { live = join.live }) (held c.self.inside.by_label) at join.is (live_shape join.live) c.self.invariant.labels }

pub returns-clause-ok : goal.returns-clause-ok
returns-clause-ok c =
    let at : slice_get c.self.inside.objects.items c.args.o.0 ≡ Some c.index_mut-object.result.now = slice_get_read c.self.inside.objects.items (length c.self.inside.objects.items) c.args.o.0 c.index_mut-object.result.now refl (is_within c.self.inside.opened c.self.inside.objects.items c.args.o.0 _ (subst (λ g. Stands g c.args.o.0) (sym c.self.view_is) c.requires.stands)) c.index_mut-object.ensures.value in
    let new : Graph = graph_of c.self.inside.opened (slice_set c.self.inside.objects.items c.args.o.0 c.join_live.new.self) in
    subst (λ g. JoinsLive g c.args.o.0 c.args.s new) c.self.view_is (joins c.self.inside.opened c.self.inside.objects.items c.args.o.0 c.index_mut-object.result.now at c.args.s c.join_live.new.self c.in_ok-join_live.ensures.ok)
