use Rattle.relation_rows.proofs.RestingRows.{rest_none, rest_item, rest_all}
use Rattle.relation_rows.proofs.resting.rows_at_rest.Goals as goal

pub loop-time-init : goal.loop-time-init
loop-time-init c = rest_none c.args.times.now c.in_ok-rows.rows.items c.in_ok-rows.ensures.items

pub loop-time-preserved : goal.loop-time-preserved
loop-time-preserved c =
    let pushed = c.in_ok-push.ensures.items in
    rest_item c.args.times.now c.loop-time.time-index _ c.time-item.result c.band_at_rest.result c.loop-time-test.true c.time-item.is c.band_at_rest.ensures c.loop-time.rows.items c.push.new.self.items pushed c.loop-time.invariant

pub returns : goal.returns
returns c = rest_all c.args.times.now c.loop-time.time-index c.loop-time.rows.items c.loop-time-test.false c.loop-time.invariant
