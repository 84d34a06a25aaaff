use Rattle.relation_rows.proofs.Going.{row_formed}
use Rattle.relation_rows.proofs.ByRows.{lasting_ordered, met_formed, one_taken, all_taken}
use Rattle.relation_rows.proofs.by_rows.left_by_rows.Goals as goal

pub begun_count-requires : goal.begun_count-requires
begun_count-requires c =
    let order = c.stand_by_departure.ensures c.if-not-stand_by_departure.false in
    lasting_ordered c.args.rows.now c.args.cuts.now order c.loop-row.row-index _ c.loop-row-test.true c.loop-row.later.now c.loop-row.left.items c.loop-row.invariant
    c.ended_count.result c.ended_count.ensures.ended c.split_at.result.1.now c.split_at.ensures.back

pub push_row_left-requires-clause-row : goal.push_row_left-requires-clause-row
push_row_left-requires-clause-row c = row_formed c.args.rows.now c.loop-row.row-index _ c.loop-row-test.true c.requires.rows

pub push_row_left-requires-clause-cuts : goal.push_row_left-requires-clause-cuts
push_row_left-requires-clause-cuts c =
    let order = c.stand_by_departure.ensures c.if-not-stand_by_departure.false in
    met_formed c.args.rows.now c.args.cuts.now order c.loop-row.row-index _ c.loop-row-test.true c.loop-row.later.now c.loop-row.left.items c.loop-row.invariant
    c.ended_count.result c.ended_count.ensures.ended c.split_at.result.1.now c.split_at.ensures.back
    c.begun_count.result c.begun_count.ensures.later c.split_at-in-loop-row.result.0.now c.split_at-in-loop-row.ensures.front c.requires.cuts

pub loop-row-preserved : goal.loop-row-preserved
loop-row-preserved c =
    let order = c.stand_by_departure.ensures c.if-not-stand_by_departure.false in
    one_taken c.args.rows.now c.args.cuts.now order c.loop-row.row-index _ c.loop-row-test.true c.loop-row.later.now c.loop-row.left.items c.loop-row.invariant
    c.ended_count.result c.ended_count.ensures.ended c.split_at.result.1.now c.split_at.ensures.back
    c.begun_count.result c.begun_count.ensures.later c.split_at-in-loop-row.result.0.now c.split_at-in-loop-row.ensures.front
    c.push_row_left.new.left.items c.in_ok-push_row_left.ensures

pub returns : goal.returns
returns c = all_taken c.args.rows.now c.args.cuts.now c.loop-row.row-index c.loop-row.later.now c.loop-row.left.items c.loop-row-test.false c.loop-row.invariant
