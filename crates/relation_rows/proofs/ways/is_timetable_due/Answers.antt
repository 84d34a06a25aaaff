use Rattle.relation_rows.proofs.Going.{row_formed}
use Rattle.relation_rows.proofs.ways.is_timetable_due.Goals as goal

pub loop-row-init : goal.loop-row-init
loop-row-init c = tt

pub are_often_met-requires : goal.are_often_met-requires
are_often_met-requires c = row_formed c.args.rows.now c.loop-row.row-index _ c.loop-row-test.true c.requires

pub loop-row-preserved : goal.loop-row-preserved
loop-row-preserved c = tt
