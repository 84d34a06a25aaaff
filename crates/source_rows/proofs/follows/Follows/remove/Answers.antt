use Rattle.std.proofs.Common.{◌≡◌, List, sym, ◌∙◌, ap, subst}
use Rattle.std.specs.Prelude.{IsSomeAnd, slice_get}
use Rattle.source_rows.specs.Follows.{Follow, AreSound, without}
use Rattle.source_rows.proofs.FollowLists.{sound_less, taken_out}
use Rattle.source_rows.proofs.follows.Follows.remove.Goals as goal

pub invariant_of-self : goal.invariant_of-self
invariant_of-self c = subst AreSound (sym c.remove-removed.ensures.items) (sound_less c.self.inside.items.items c.in-Some.place c.self.invariant)

pub returns-clause-removed : goal.returns-clause-removed
returns-clause-removed c =
    let here = subst (λ (v : List Follow). IsSomeAnd (slice_get v c.in-Some.place) (λ f. f.name ≡ c.args.name.now)) (sym c.self.view_is) c.in-Some.ensures.some in
    c.remove-removed.ensures.items ∙ taken_out c.self.inside.items.items c.in-Some.place c.args.name.now here c.self.invariant.differ ∙ ap (without c.args.name.now) c.self.view_is
