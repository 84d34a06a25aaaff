use Rattle.condition_eval.proofs.Joining.{none_joined, all_joined, item_span, item_up, item_joined, joined_order}
use Rattle.condition_eval.proofs.either.push_all.Goals as goal

pub loop-row-init : goal.loop-row-init
loop-row-init c = none_joined c.args.rows.now.items c.args.more.now c.requires.order c.requires.more c.requires.up

pub push_joined-requires-clause-order : goal.push_joined-requires-clause-order
push_joined-requires-clause-order c = joined_order _ _ c.loop-row.invariant

pub push_joined-requires-clause-span : goal.push_joined-requires-clause-span
push_joined-requires-clause-span c = item_span c.args.rows.now.items c.args.more.now c.requires.order c.requires.more c.requires.up c.loop-row.row-index c.row-item.result c.loop-row-test.true c.row-item.is c.loop-row.rows.items c.loop-row.invariant

pub push_joined-requires-clause-up : goal.push_joined-requires-clause-up
push_joined-requires-clause-up c = item_up c.args.rows.now.items c.args.more.now c.requires.order c.requires.more c.requires.up c.loop-row.row-index c.row-item.result c.loop-row-test.true c.row-item.is c.loop-row.rows.items c.loop-row.invariant

pub loop-row-preserved : goal.loop-row-preserved
loop-row-preserved c =
    item_joined c.args.rows.now.items c.args.more.now c.requires.order c.requires.more c.requires.up c.loop-row.row-index c.row-item.result c.loop-row-test.true c.row-item.is c.loop-row.rows.items c.loop-row.invariant _ c.in_ok-push_joined.ensures

pub returns : goal.returns
returns c = all_joined c.args.rows.now.items c.args.more.now c.requires.order c.requires.more c.requires.up c.loop-row.row-index c.loop-row.rows.items c.loop-row-test.false c.loop-row.invariant
