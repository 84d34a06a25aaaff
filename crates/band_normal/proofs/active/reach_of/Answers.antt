use Rattle.std.proofs.Common.{SFits, w64, rules, to_z-of_z, arith}
use Rattle.std.proofs.lemmas.Int.{ints}
use Rattle.band_normal.specs.Bands.{end_at}
use Rattle.band_normal.proofs.active.reach_of.Goals as goal

pub at-requires : goal.at-requires
at-requires c =
    let from : SFits w64 c.args.along.from = search rules in
    let near = c.requires.well_formed.low c.args.along.from c.requires.from c.requires.to in
    let fits : SFits w64 (end_at c.args.band.low c.args.along.from) = omega (arith, ints) in
    simp to_z-of_z fits
