use Rattle.std.proofs.Common.{◌↔◌, ℤ, arith, subst, SFits, w64, to_z, of_z, to_z-of_z, rules}
use Rattle.zone_core.specs.Zone.{Between}
use Rattle.band_normal.specs.Bands.{InBand}
use Rattle.std.proofs.lemmas.Int.{ints}
use Rattle.relation_rows.proofs.BandWays.{none_sooner, none_later, way_first, way_second, rests_first, rests_last}
use Rattle.relation_rows.proofs.direct.way_of.Goals as goal

pub returns-then-next-first : goal.returns-then-next-first
returns-then-next-first c = let lt = c.if-next-first.true in none_sooner c.args.band.now c.args.next.now c.first_arrival-first.result c.last_arrival-last.result c.first_arrival-first.ensures c.last_arrival-last.ensures (omega (arith, ints, lt))

pub returns-then-last-next : goal.returns-then-last-next
returns-then-last-next c = let lt = c.if-last-next.true in none_later c.args.band.now c.args.next.now c.first_arrival-first.result c.last_arrival-last.result c.first_arrival-first.ensures c.last_arrival-last.ensures (omega (arith, ints, lt))

pub clipped-requires-clause-begins : goal.clipped-requires-clause-begins
clipped-requires-clause-begins c =
    let last = rests_last c.args.band.now (c.requires.band).formed.span (c.rests.ensures c.if-rests.true) in
    let is = c.last_arrival-last.ensures in
    let meets = c.if-last-next.false in
    omega (arith, ints, last, is, meets)

pub clipped-requires-clause-ends : goal.clipped-requires-clause-ends
clipped-requires-clause-ends c =
    let first = rests_first c.args.band.now (c.requires.band).formed.span (c.rests.ensures c.if-rests.true) in
    let is = c.first_arrival-first.ensures in
    let meets = c.if-next-first.false in
    omega (arith, ints, first, is, meets)

pub returns-then-rests : goal.returns-then-rests
returns-then-rests c =
    let from : SFits w64 c.args.band.now.from = search rules in
    let to : SFits w64 c.args.band.now.to = search rules in
    let begun = subst (λ (v : ℤ). (t : ℤ) → (u : ℤ) → InBand c.clipped.result t u ↔ (InBand c.args.next.now t u × Between v (to_z w64 (of_z w64 c.args.band.now.to)) t)) (to_z-of_z from) c.clipped.ensures.pairs in
    let pairs = subst (λ (v : ℤ). (t : ℤ) → (u : ℤ) → InBand c.clipped.result t u ↔ (InBand c.args.next.now t u × Between c.args.band.now.from v t)) (to_z-of_z to) begun in
    (c.clipped.ensures.lone, way_second c.args.band.now c.args.next.now c.clipped.result (c.rests.ensures c.if-rests.true) pairs)

pub returns-then-rests-2 : goal.returns-then-rests-2
returns-then-rests-2 c =
    let low = c.if-first-next.false in
    let high = c.if-next-last.false in (
      c.requires.band,
      way_first c.args.band.now c.args.next.now c.first_arrival-first.result c.last_arrival-last.result c.first_arrival-first.ensures c.last_arrival-last.ensures (c.rests-2.ensures c.if-rests-2.true)
          (omega (arith, ints, low)) (omega (arith, ints, high)),
    )
