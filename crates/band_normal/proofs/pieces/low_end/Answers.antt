use Rattle.std.proofs.Common.{◌≡◌, ◌+ℤ◌, ap, arith, to_z-of_z, SFits, w64, rules}
use Rattle.std.proofs.lemmas.Int.{ints}
use Rattle.std.specs.Int.{int_max}
use Rattle.band_normal.specs.declared.band.End.TheVariants.{Fixed}
use Rattle.band_normal.proofs.pieces.low_end.Goals as goal

pub returns-then-from-to-clause-single : goal.returns-then-from-to-clause-single
returns-then-from-to-clause-single c =
    let fx : SFits w64 c.args.k.c = search rules in
    let fy : SFits w64 c.args.k.e = search rules in
    let ff : SFits w64 c.args.from = c.ranges.from in
    let fs : SFits w64 (c.args.from +ℤ c.args.k.e) = omega (arith, ints) in
    let fr : SFits w64 c.max.result = search rules in
    let e : c.max.result ≡ int_max c.args.k.c (c.args.from +ℤ c.args.k.e) = simp to_z-of_z at c.max.ensures.value in
    λ one. ap Fixed (simp to_z-of_z e)

pub returns-then-from-k-clause-moves : goal.returns-then-from-k-clause-moves
returns-then-from-k-clause-moves c = λ long turned. absurd (omega (arith, ints))

pub returns-else-from-k-clause-stays : goal.returns-else-from-k-clause-stays
returns-else-from-k-clause-stays c = λ long turned. absurd (omega (arith, ints))
