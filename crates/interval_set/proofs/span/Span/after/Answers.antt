use Rattle.std.proofs.Common.{pos, ◌+ℤ◌, SFits, w64, rules, arith}
use Rattle.std.proofs.lemmas.Int.{ints, clamps, to_z-of_z}
use Rattle.interval_set.proofs.span.Span.after.Goals as goal

pub invariant_of-result : goal.invariant_of-result
invariant_of-result c =
    let from : SFits w64 c.self.inside.from = search rules in
    let to : SFits w64 c.self.inside.to = search rules in
    let other : SFits w64 c.s.inside.to = search rules in
    let next : SFits w64 (c.s.inside.to +ℤ pos 1) = omega (arith, ints) in
    let greatest : SFits w64 c.max.result = search rules in
    let value = simp to_z-of_z at c.max.ensures.value in
    simp to_z-of_z (omega (arith, ints, clamps))
