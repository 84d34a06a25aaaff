use Rattle.std.proofs.Common.{◌≡◌, ◌↔◌, ◌≤◌, pos, ◌+ℤ◌, Option, SFits, w64, to_z, to_z-of_z, arith, subst}
use Rattle.std.proofs.lemmas.Int.{ints, to_z_pos}
use Rattle.zone_core.specs.Zone.{Holds, Meets}
use Rattle.zone_core.specs.declared.Bounds.{Bounds}
use Rattle.wide_witness.proofs.StepRows.{along_bounds, along_meets, along_near, along_some, last_near, least_of}
use Rattle.wide_witness.proofs.along.zone_along.Goals as goal

pub tight-requires : goal.tight-requires
tight-requires c =
    let first = c.requires.formed.from in
    let to = c.requires.formed.to in
    let near = last_near c.args.row.now c.requires.formed c.requires.steps in
    let a : SFits w64 c.args.row.now.band.from = omega (arith, ints, first) in
    let b : SFits w64 c.args.row.now.band.to = omega (arith, ints, to) in
    let d : SFits w64 (c.args.row.now.band.to +ℤ pos 1) = omega (arith, ints, near) in
    let m = c.min.ensures in
    let few : c.min.result ≤ 8000000000000 = omega (arith, m) in
    let f : to_z w64 c.min.result ≡ pos c.min.result = to_z_pos w64 c.min.result (omega (arith, few)) in
    simp (to_z-of_z, f) (along_near c.args.row.now c.requires.formed c.requires.steps c.min.result few)

pub unwrap-requires : goal.unwrap-requires
unwrap-requires c =
    let first = c.requires.formed.from in
    let to = c.requires.formed.to in
    let near = last_near c.args.row.now c.requires.formed c.requires.steps in
    let a : SFits w64 c.args.row.now.band.from = omega (arith, ints, first) in
    let b : SFits w64 c.args.row.now.band.to = omega (arith, ints, to) in
    let d : SFits w64 (c.args.row.now.band.to +ℤ pos 1) = omega (arith, ints, near) in
    let m = c.min.ensures in
    let few : c.min.result ≤ 8000000000000 = omega (arith, m) in
    let f : to_z w64 c.min.result ≡ pos c.min.result = to_z_pos w64 c.min.result (omega (arith, few)) in
    let some = simp (to_z-of_z, f) at c.tight.ensures.some in
    some.1 (record { departure = c.args.row.now.band.from; arrival = c.args.row.now.band.from; related = along_some c.args.row.now c.requires.formed c.min.result })

pub returns : goal.returns
returns c = λ t u.
    let first = c.requires.formed.from in
    let to = c.requires.formed.to in
    let near = last_near c.args.row.now c.requires.formed c.requires.steps in
    let a : SFits w64 c.args.row.now.band.from = omega (arith, ints, first) in
    let b : SFits w64 c.args.row.now.band.to = omega (arith, ints, to) in
    let d : SFits w64 (c.args.row.now.band.to +ℤ pos 1) = omega (arith, ints, near) in
    let m = c.min.ensures in
    let few : c.min.result ≤ 8000000000000 = omega (arith, m) in
    let f : to_z w64 c.min.result ≡ pos c.min.result = to_z_pos w64 c.min.result (omega (arith, few)) in
    let pairs = simp (to_z-of_z, f) at c.tight.ensures.pairs in
    let own = subst (λ (v : Option Bounds). Holds v t u ↔ Meets (along_bounds c.args.row.now.band.from (c.args.row.now.band.to +ℤ pos 1) (pos c.min.result)) t u) c.unwrap.ensures (pairs t u) in
    let is = along_meets c.args.row.now c.requires.formed c.requires.steps c.min.result c.args.most (omega (arith, m)) (least_of c.min.result c.args.most 8000000000000 m) t u in
    (λ h. is.0 (own.0 h), λ h. own.1 (is.1 h))
