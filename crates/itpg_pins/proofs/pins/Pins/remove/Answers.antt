use Rattle.std.proofs.Common.{◌≡◌, sym, ◌∙◌, ap, subst}
use Rattle.std.specs.Prelude.{IsSomeAnd, slice_get}
use Rattle.itpg_pins.specs.Pins.{Pinned, AreSound, without}
use Rattle.itpg_pins.proofs.Keeping.{sound_less, taken_out}
use Rattle.itpg_pins.proofs.pins.Pins.remove.Goals as goal

pub invariant_of-self : goal.invariant_of-self
invariant_of-self c =
    let here = subst (λ (v : Pinned). IsSomeAnd (slice_get v.pins c.in-Some.place) (λ p. p.name ≡ c.args.name.now)) (sym c.self.view_is) c.in-Some.ensures.some in
    subst (AreSound c.self.inside.max_rows) (sym c.remove-removed.ensures.items) (sound_less c.self.inside.max_rows c.self.inside.items.items c.in-Some.place c.args.name.now here c.self.invariant)

pub returns-clause-removed : goal.returns-clause-removed
returns-clause-removed c =
    let here = subst (λ (v : Pinned). IsSomeAnd (slice_get v.pins c.in-Some.place) (λ p. p.name ≡ c.args.name.now)) (sym c.self.view_is) c.in-Some.ensures.some in
    c.remove-removed.ensures.items ∙ taken_out c.self.inside.items.items c.in-Some.place c.args.name.now here c.self.invariant.differ ∙ ap (λ (v : Pinned). without c.args.name.now v.pins) c.self.view_is
