use Rattle.relation_rows.proofs.Departing.{found_as}
use Rattle.relation_rows.proofs.Going.{leg_more, all_ways, leg_formed, leg_source}
use Rattle.relation_rows.proofs.ways.push_searched.Goals as goal

pub push_way-requires-clause-next : goal.push_way-requires-clause-next
push_way-requires-clause-next c =
    let are = found_as c.args.legs.now c.find_departing.new.found.items c.as_slice-leg-items.result.now c.args.row.now.target.0 c.arrivals-span.result.0 c.arrivals-span.result.1 c.as_slice-leg-items.ensures.value c.in_ok-find_departing.ensures in
    leg_formed c.args.legs.now c.as_slice-leg-items.result.now c.loop-leg.leg-index _ c.loop-leg-test.true (λ s a. ((are s).0 a).0) (c.requires.legs).formed

pub loop-leg-preserved : goal.loop-leg-preserved
loop-leg-preserved c =
    let are = found_as c.args.legs.now c.find_departing.new.found.items c.as_slice-leg-items.result.now c.args.row.now.target.0 c.arrivals-span.result.0 c.arrivals-span.result.1 c.as_slice-leg-items.ensures.value c.in_ok-find_departing.ensures in
    leg_more c.args.row.now c.zone_of-zone.result c.zone_of-zone.ensures _ _ _ c.as_slice-leg-items.result.now c.loop-leg.leg-index _ c.loop-leg-test.true
    (leg_source c.as_slice-leg-items.result.now _ c.loop-leg.leg-index _ c.loop-leg-test.true (λ s a. (((are s).0 a).1).source))
    c.in_ok-push_way.ensures
    c.loop-leg.invariant

pub returns : goal.returns
returns c =
    let are = found_as c.args.legs.now c.find_departing.new.found.items c.as_slice-leg-items.result.now c.args.row.now.target.0 c.arrivals-span.result.0 c.arrivals-span.result.1 c.as_slice-leg-items.ensures.value c.in_ok-find_departing.ensures in
    all_ways c.args.row.now c.zone_of-zone.result c.zone_of-zone.ensures c.args.legs.now c.as_slice-leg-items.result.now c.arrivals-span.result.0 c.arrivals-span.result.1 c.arrivals-span.ensures
    are _ _ c.loop-leg.leg-index c.loop-leg-test.false c.loop-leg.invariant
