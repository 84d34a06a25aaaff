use Rattle.std.proofs.Common.{◌≡◌, SFits, w64, to_z, of_z, to_z-of_z, rules, arith, pos}
use Rattle.std.specs.Prelude.{◌-ℤ◌}
use Rattle.std.proofs.lemmas.Int.{ints}
use Rattle.band_normal.specs.Bands.{end_at}
use Rattle.band_normal.proofs.links.corner_to_continue.Goals as goal

pub returns : goal.returns
returns c =
    let near = c.requires.from in
    let from : SFits w64 c.args.strip.from = search rules in
    let low : SFits w64 c.at.result = search rules in
    let is = simp to_z-of_z at c.at.ensures in
    let within = c.requires.low c.args.strip.from (omega (arith, ints)) c.requires.span in
    let departure : to_z w64 (of_z w64 (to_z w64 (of_z w64 c.args.strip.from) -ℤ pos 1)) ≡ c.args.strip.from -ℤ pos 1 = omega (arith, ints) in
    let arrival : to_z w64 (of_z w64 (to_z w64 (of_z w64 c.at.result) -ℤ pos 1)) ≡ end_at c.args.strip.low c.args.strip.from -ℤ pos 1 = omega (arith, ints) in
    cc
