use Rattle.std.proofs.Common.{ℤ, pos, ◌+ℤ◌, ◌≡◌, SFits, w64, to_z, of_z, to_z-of_z, rules, arith, subst}
use Rattle.std.proofs.lemmas.Int.{ints}
use Rattle.arrivals.specs.Sweeping.{IsStretch}
use Rattle.arrivals.proofs.counts.next_stretch.Goals as goal

pub returns : goal.returns
returns c =
    let a : SFits w64 c.to-done.result = search rules in
    let b : SFits w64 c.to-until.result = search rules in
    let f = c.to-done.ensures.value in
    let g = c.to-until.ensures.value in
    let up = c.requires.stops in
    let e : to_z w64 (of_z w64 (to_z w64 (of_z w64 c.to-done.result) +ℤ pos 1)) ≡ c.args.last.now.span.to +ℤ pos 1 = (let d : SFits w64 (c.to-done.result +ℤ pos 1) = omega (arith, ints) in simp to_z-of_z (omega (arith, ints))) in
    subst (λ (v : ℤ). IsStretch v c.args.waiting.now c.args.ending.now c.args.stop.now c.stretch.result) e c.stretch.ensures
