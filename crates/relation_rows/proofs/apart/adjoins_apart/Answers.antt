use Rattle.std.proofs.Common.{sym, ◌∙◌, subst, true≢false, Bool, not, arith, SFits, w64, to_z-of_z}
use Rattle.std.specs.Prelude.{IsTrue}
use Rattle.std.proofs.lemmas.Int.{ints}
use Rattle.relation_rows.proofs.ClearRows.{adjoins_high, adjoins_low, steps_alike}
use Rattle.relation_rows.proofs.apart.adjoins_apart.Goals as goal

pub returns-then-not-is_step : goal.returns-then-not-is_step
returns-then-not-is_step c = λ e.
    let next = c.if-first-second.false in
    let to = c.requires.first.to in
    let first : SFits w64 c.last_low.result = omega (arith, ints) in
    let second : SFits w64 c.first_arrival.result = omega (arith, ints) in
    adjoins_low c.args.first.now c.args.second.now (omega (arith, ints, next, to))
    (λ x. true≢false (sym (c.is_step.ensures.1 (steps_alike _ _ _ _ (to_z-of_z first ∙ c.last_low.ensures) (to_z-of_z second ∙ c.first_arrival.ensures) x)) ∙ c.if-not-is_step.true))

pub returns : goal.returns
returns c = λ e.
    let next = c.if-first-second.false in
    let to = c.requires.first.to in
    let first : SFits w64 c.last_arrival.result = omega (arith, ints) in
    let second : SFits w64 c.first_high.result = omega (arith, ints) in
    adjoins_high c.args.first.now c.args.second.now (omega (arith, ints, next, to))
    (λ y. true≢false (sym (subst (λ (v : Bool). IsTrue (not v)) (c.is_step-2.ensures.1 (steps_alike _ _ _ _ (to_z-of_z first ∙ c.last_arrival.ensures) (to_z-of_z second ∙ c.first_high.ensures) y)) e)))
