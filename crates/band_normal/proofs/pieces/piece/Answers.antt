use Rattle.std.proofs.Common.{SFits, w64, rules, to_z-of_z, arith, ◌-ℤ◌}
use Rattle.std.proofs.lemmas.Int.{ints}
use Rattle.band_normal.proofs.Turns.{piece_of, cause_of}
use Rattle.band_normal.proofs.pieces.piece.Goals as goal

pub low_end-requires-clause-from_near : goal.low_end-requires-clause-from_near
low_end-requires-clause-from_near c = record { above = omega (arith, ints); below = omega (arith, ints) }

pub high_end-requires-clause-from_near : goal.high_end-requires-clause-from_near
high_end-requires-clause-from_near c = record { above = omega (arith, ints); below = omega (arith, ints) }

pub returns : goal.returns
returns c =
    let ff : SFits w64 c.args.from = c.ranges.from in
    let ft : SFits w64 c.cut-to.result = search rules in
    let fb : SFits w64 c.args.k.b = search rules in
    let fc : SFits w64 c.args.k.c = search rules in
    let fd : SFits w64 c.args.k.d = search rules in
    let fe : SFits w64 c.args.k.e = search rules in
    let fk : SFits w64 c.args.k.f = search rules in
    let fs : SFits w64 (c.args.k.c -ℤ c.args.k.e) = omega (arith, ints) in
    let fu : SFits w64 (c.args.k.d -ℤ c.args.k.f) = omega (arith, ints) in
    let fr : SFits w64 c.cut.result = search rules in
    let one = simp to_z-of_z at c.cut.ensures in
    let two = simp to_z-of_z at c.cut-to.ensures in
    simp to_z-of_z (piece_of c.args.k c.args.from c.cut-to.result c.low_end.result c.high_end.result c.requires.tight (record {
      first = c.requires.first;
      span = two.span;
      within = let x = one.within in let y = two.within in omega (arith, ints);
      low_turn = λ lt. let x = one.turned lt in let y = two.within in omega (arith, ints);
      high_turn = two.turned;
      cause = cause_of _ _ _ _ _ _ one.cause two.cause;
      low_single = simp to_z-of_z at c.low_end.ensures.single;
      low_stays = simp to_z-of_z at c.low_end.ensures.stays;
      low_moves = simp to_z-of_z at c.low_end.ensures.moves;
      high_single = simp to_z-of_z at c.high_end.ensures.single;
      high_moves = simp to_z-of_z at c.high_end.ensures.moves;
      high_stays = simp to_z-of_z at c.high_end.ensures.stays;
    }))
