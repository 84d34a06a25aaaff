use Rattle.std.proofs.Common.{pos, ◌+ℤ◌, SFits, w64, rules, to_z-of_z, arith}
use Rattle.std.proofs.lemmas.Int.{ints}
use Rattle.band_normal.proofs.pieces.piece_after.Goals as goal

pub returns : goal.returns
returns c =
    let fits : SFits w64 c.args.before.to = search rules in
    let next : SFits w64 (c.args.before.to +ℤ pos 1) = omega (arith, ints) in
    simp to_z-of_z at c.piece.ensures
