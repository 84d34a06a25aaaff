use Rattle.relation_rows.proofs.Reaching.{more_reached}
use Rattle.relation_rows.proofs.timetable.reach_of.Goals as goal

pub loop-row-preserved : goal.loop-row-preserved
loop-row-preserved c =
    more_reached c.args.rows.now c.loop-row.row-index _ c.loop-row-test.true c.loop-row.reach c.farther-reach.result c.farther-reach.ensures.row c.farther-reach.ensures.others c.loop-row.invariant
