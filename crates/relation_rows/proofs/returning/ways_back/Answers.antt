use Rattle.relation_rows.proofs.Going.{row_formed}
use Rattle.relation_rows.proofs.LeadingBack.{back_more, every_back}
use Rattle.relation_rows.proofs.returning.ways_back.Goals as goal

pub push_back-requires-clause-row : goal.push_back-requires-clause-row
push_back-requires-clause-row c = row_formed c.args.rows.now c.loop-row.row-index _ c.loop-row-test.true c.requires.rows

pub loop-row-preserved : goal.loop-row-preserved
loop-row-preserved c = back_more c.args.rows.now c.args.second.now _ _ c.loop-row.row-index _ c.loop-row-test.true c.in_ok-push_back.ensures c.loop-row.invariant

pub returns : goal.returns
returns c = every_back c.args.rows.now c.args.second.now _ c.loop-row.row-index c.loop-row-test.false c.loop-row.invariant
