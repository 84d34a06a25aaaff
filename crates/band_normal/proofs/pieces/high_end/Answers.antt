use Rattle.std.proofs.Common.{◌≡◌, ◌+ℤ◌, ap, arith, to_z-of_z, SFits, w64, rules}
use Rattle.std.proofs.lemmas.Int.{ints}
use Rattle.std.specs.Int.{int_min}
use Rattle.band_normal.specs.declared.band.End.TheVariants.{Fixed}
use Rattle.band_normal.proofs.pieces.high_end.Goals as goal

pub returns-then-from-to-clause-single : goal.returns-then-from-to-clause-single
returns-then-from-to-clause-single c =
    let fx : SFits w64 c.args.k.d = search rules in
    let fy : SFits w64 c.args.k.f = search rules in
    let ff : SFits w64 c.args.from = c.ranges.from in
    let fs : SFits w64 (c.args.from +ℤ c.args.k.f) = omega (arith, ints) in
    let fr : SFits w64 c.min.result = search rules in
    let e : c.min.result ≡ int_min c.args.k.d (c.args.from +ℤ c.args.k.f) = simp to_z-of_z at c.min.ensures.value in
    λ one. ap Fixed (simp to_z-of_z e)

pub returns-then-from-k-clause-stays : goal.returns-then-from-k-clause-stays
returns-then-from-k-clause-stays c = λ long turned. absurd (omega (arith, ints))

pub returns-else-from-k-clause-moves : goal.returns-else-from-k-clause-moves
returns-else-from-k-clause-moves c = λ long turned. absurd (omega (arith, ints))
