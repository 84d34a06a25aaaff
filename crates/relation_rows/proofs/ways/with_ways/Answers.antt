use Rattle.relation_rows.proofs.Going.{row_more, no_rows, every_row, row_formed}
use Rattle.relation_rows.proofs.ways.with_ways.Goals as goal

pub loop-row-init : goal.loop-row-init
loop-row-init c = no_rows c.args.ways.items c.args.rows.now c.args.second.now

pub loop-row-preserved : goal.loop-row-preserved
loop-row-preserved c =
    row_more c.args.ways.items _ _ _ c.args.rows.now c.args.second.now c.loop-row.row-index _ c.loop-row-test.true c.in_ok-push_ways.ensures c.in_ok-left.ensures c.loop-row.invariant

pub returns : goal.returns
returns c = every_row c.args.ways.items _ c.args.rows.now c.args.second.now c.loop-row.row-index c.loop-row-test.false c.loop-row.invariant

pub push_ways-requires-clause-row : goal.push_ways-requires-clause-row
push_ways-requires-clause-row c = row_formed c.args.rows.now c.loop-row.row-index _ c.loop-row-test.true c.requires.rows
