use Rattle.std.proofs.Common.{◌≡◌, ◌+ℤ◌, SFits, w64, to_z, of_z, rules, to_z-of_z, arith}
use Rattle.std.proofs.lemmas.Int.{ints}
use Rattle.band_normal.specs.Bands.{end_at}
use Rattle.band_normal.proofs.Stretches.{le_tells}
use Rattle.band_normal.proofs.strips.is_at_most.Goals as goal

pub returns : goal.returns
returns c =
    let from : SFits w64 c.args.along.from = search rules in
    let slack : SFits w64 c.args.slack = c.ranges.slack in
    let x : SFits w64 c.at.result = search rules in
    let y : SFits w64 c.at-2.result = search rules in
    let is_x : c.at.result ≡ end_at c.args.x c.args.along.from = simp to_z-of_z at c.at.ensures in
    let is_y : c.at-2.result ≡ end_at c.args.y c.args.along.from = simp to_z-of_z at c.at-2.ensures in
    let sum : SFits w64 (c.at-2.result +ℤ c.args.slack) = omega (arith, ints) in
    le_tells (end_at c.args.x c.args.along.from) (end_at c.args.y c.args.along.from +ℤ c.args.slack) (to_z w64 (of_z w64 c.at.result)) (to_z w64 (of_z w64 (to_z w64 (of_z w64 c.at-2.result) +ℤ to_z w64 (of_z w64 c.args.slack))))
    (omega (arith, ints)) (omega (arith, ints))
