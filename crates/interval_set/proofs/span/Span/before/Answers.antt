use Rattle.std.proofs.Common.{pos, ◌-ℤ◌, ◌<ℤ◌, SFits, w64, rules, arith}
use Rattle.std.proofs.lemmas.Int.{ints, to_z-of_z}
use Rattle.interval_set.proofs.span.Span.before.Goals as goal

pub returns : goal.returns
returns c =
    let from : SFits w64 c.self.inside.from = search rules in
    let to : SFits w64 c.self.inside.to = search rules in
    let other : SFits w64 c.s.inside.from = search rules in
    let last : SFits w64 (c.s.inside.from -ℤ pos 1) = omega (arith, ints) in
    let least : SFits w64 c.min.result = search rules in
    let value = simp to_z-of_z at c.min.ensures.value in
    let early : c.self.inside.from <ℤ c.s.inside.from = omega (arith, ints) in
    rw (← c.self.view_is, ← c.s.view_is) (early, simp to_z-of_z (cc))
