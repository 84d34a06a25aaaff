use Rattle.std.proofs.Common.{◌≡◌, List, sym, ◌∙◌, ap, subst, true≢false}
use Rattle.std.specs.Prelude.{IsSomeAnd, slice_get}
use Rattle.itpg_pins.specs.Pins.{Held, Pinned, IsOnlyPlace}
use Rattle.itpg_pins.proofs.Keeping.{not_more, found_here, only_here, pinned_some}
use Rattle.itpg_pins.proofs.pins.Pins.find.Goals as goal

pub returns-then-has_name-clause-none : goal.returns-then-has_name-clause-none
returns-then-has_name-clause-none c =
    let name = c.args.name.now in
    let i = c.loop-place.place in
    let found = found_here c.deref-pin-items.result.now name i c.pin-item.result c.loop-place-test.true c.pin-item.is (c.has_name.ensures.0 c.if-has_name.true) in
    let is : c.deref-pin-items.result.now ≡ c.args.self.now.pins = c.deref-pin-items.ensures.value ∙ ap (λ (v : Pinned). v.pins) c.self.view_is in
    let here : IsSomeAnd (slice_get c.args.self.now.pins i) (λ p. p.name ≡ name) = subst (λ (ps : List Held). IsSomeAnd (slice_get ps i) (λ p. p.name ≡ name)) is found in
    (λ h. absurd (true≢false h), λ none. absurd (none (pinned_some c.args.self.now.pins i name here)))

pub returns-then-has_name-clause-only : goal.returns-then-has_name-clause-only
returns-then-has_name-clause-only c =
    let name = c.args.name.now in
    let i = c.loop-place.place in
    let found = found_here c.deref-pin-items.result.now name i c.pin-item.result c.loop-place-test.true c.pin-item.is (c.has_name.ensures.0 c.if-has_name.true) in
    let here : IsSomeAnd (slice_get c.self.inside.items.items i) (λ p. p.name ≡ name) = subst (λ (ps : List Held). IsSomeAnd (slice_get ps i) (λ p. p.name ≡ name)) c.deref-pin-items.ensures.value found in
    subst (λ (v : Pinned). IsOnlyPlace v.pins name i) c.self.view_is (only_here c.self.inside.items.items i name here c.self.invariant.differ)

pub loop-place-preserved : goal.loop-place-preserved
loop-place-preserved c = λ k a e. not_more c.deref-pin-items.result.now c.args.name.now c.loop-place.place c.pin-item.result c.loop-place-test.true c.pin-item.is c.loop-place.invariant
    (λ same. true≢false (sym (c.has_name.ensures.1 same) ∙ c.if-has_name.false)) k a e
