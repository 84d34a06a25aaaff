use Rattle.std.proofs.Common.{SFits, w64, rules, arith, sym, subst}
use Rattle.std.proofs.lemmas.Int.{ints}
use Rattle.zone_core.specs.declared.Bounds.{Bounds}
use Rattle.zone_core.specs.Zone.{Meets}
use Rattle.relation_rows.specs.Ways.{GoesThrough}
use Rattle.relation_rows.proofs.Going.{around, soon_fits, late_fits, soon_enough, late_enough}
use Rattle.relation_rows.proofs.ways.is_around.Goals as goal

pub overflow_sub-low : goal.overflow_sub-low
overflow_sub-low c = soon_fits c.args.band.now c.first_arrival-low.result c.requires c.first_arrival-low.ensures c.bounds-departing.result c.bounds-departing.ensures.near

pub overflow_sub-result : goal.overflow_sub-result
overflow_sub-result c = late_fits c.args.band.now c.last_arrival-high.result c.requires c.last_arrival-high.ensures c.bounds-departing.result c.bounds-departing.ensures.near

pub returns : goal.returns
returns c =
    let begins = c.if-departing-all.false in
    let ends = c.if-all-departing.false in
    let least = c.if-low-all.false in
    let greatest = c.if-all-high.false in
    let gap : SFits w64 c.bounds-all.result.e = search rules in
    let room : SFits w64 c.bounds-all.result.f = search rules in
    let soon = soon_enough c.args.band.now c.first_arrival-low.result c.requires c.first_arrival-low.ensures c.bounds-departing.result c.bounds-departing.ensures.near c.bounds-all.result.e gap c.if-low-departing.false in
    λ late t u w.
    subst (λ (v : Bounds). Meets v t u) c.bounds-all.ensures.same
    (around c.bounds-all.result c.bounds-departing.result c.args.band.now c.first_arrival-low.result c.last_arrival-high.result c.first_arrival-low.ensures c.last_arrival-high.ensures
    (omega (arith, ints, begins)) (omega (arith, ints, ends)) (omega (arith, ints, least)) (omega (arith, ints, greatest))
    soon (late_enough c.args.band.now c.last_arrival-high.result c.requires c.last_arrival-high.ensures c.bounds-departing.result c.bounds-departing.ensures.near c.bounds-all.result.f room late) t u
    (subst (λ (v : Bounds). GoesThrough v c.args.band.now t u) (sym c.bounds-departing.ensures.same) w))
