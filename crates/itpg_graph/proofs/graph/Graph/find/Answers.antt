use Rattle.std.proofs.Common.{◌≡◌, ◌∙◌, ◌<◌, length, refl, Some, sym, subst, rules}
use Rattle.std.specs.Prelude.{slice_get}
use Rattle.std.proofs.lemmas.Option.{slice_get_read}
use Rattle.itpg_base.specs.Graphs.{Named}
use Rattle.itpg_graph.specs.Stores.{listed}
use Rattle.itpg_graph.proofs.Views.{numbered_within, found_named, dropped_unnamed}
use Rattle.itpg_graph.proofs.graph.Graph.find.Goals as goal

pub index-requires : goal.index-requires
index-requires c =
    let e : listed c.self.inside.numbers c.args.name.now ≡ Some c.in_ok-number.number = search rules in
    let below : c.in_ok-number.number < length c.self.inside.objects.items = numbered_within c.self.inside.opened c.self.inside.objects.items c.self.inside.numbers c.args.name.now c.in_ok-number.number c.self.invariant.store.indexed e in
    search rules

pub returns-then-stands-clause-found : goal.returns-then-stands-clause-found
returns-then-stands-clause-found c =
    let e : listed c.self.inside.numbers c.args.name.now ≡ Some c.in_ok-number.number = search rules in
    let at : slice_get c.self.inside.objects.items c.in_ok-number.number ≡ Some c.index.result.now = slice_get_read c.self.inside.objects.items (length c.self.inside.objects.items) c.in_ok-number.number c.index.result.now refl (numbered_within c.self.inside.opened c.self.inside.objects.items c.self.inside.numbers c.args.name.now c.in_ok-number.number c.self.invariant.store.indexed e) c.index.ensures in
    subst (λ g. Named g c.in_ok-number.number c.args.name.now) c.self.view_is (found_named c.self.inside.opened c.self.inside.objects.items c.self.inside.numbers c.args.name.now c.in_ok-number.number c.index.result.now c.self.invariant.store.indexed e at (sym c.stands.ensures ∙ c.if-stands.true))

pub returns-else-stands-clause-none : goal.returns-else-stands-clause-none
returns-else-stands-clause-none c = λ none o named.
    let e : listed c.self.inside.numbers c.args.name.now ≡ Some c.in_ok-number.number = search rules in
    let at : slice_get c.self.inside.objects.items c.in_ok-number.number ≡ Some c.index.result.now = slice_get_read c.self.inside.objects.items (length c.self.inside.objects.items) c.in_ok-number.number c.index.result.now refl (numbered_within c.self.inside.opened c.self.inside.objects.items c.self.inside.numbers c.args.name.now c.in_ok-number.number c.self.invariant.store.indexed e) c.index.ensures in
    dropped_unnamed c.self.inside.opened c.self.inside.objects.items c.self.inside.numbers c.args.name.now c.in_ok-number.number c.index.result.now c.self.invariant.store.indexed e at (sym c.stands.ensures ∙ c.if-stands.false) o (subst (λ g. Named g o c.args.name.now) (sym c.self.view_is) named)
