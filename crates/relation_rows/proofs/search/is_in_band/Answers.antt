use Rattle.std.proofs.Common.{SFits, w64, to_z-of_z, arith}
use Rattle.std.proofs.lemmas.Int.{ints}
use Rattle.band_normal.specs.Bands.{end_at}
use Rattle.relation_rows.proofs.search.is_in_band.Goals as goal

pub at-requires-then-at-u : goal.at-requires-then-at-u
at-requires-then-at-u c =
    let t : SFits w64 c.args.t = c.ranges.t in
    let near = c.requires.high c.args.t (omega (arith, ints)) (omega (arith, ints)) in
    let fits : SFits w64 (end_at c.args.band.now.high c.args.t) = omega (arith, ints) in
    simp to_z-of_z fits

pub returns-then-at-u : goal.returns-then-at-u
returns-then-at-u c =
    let t : SFits w64 c.args.t = c.ranges.t in
    let low = simp to_z-of_z at c.at.ensures in
    let high = simp to_z-of_z at c.at-then-at-u.ensures in (
      λ h. record { from = omega (arith, ints); to = omega (arith, ints); low = omega (arith, ints); high = omega (arith, ints) },
      λ i. let a = i.high in grind (arith, ints),
    )
