use Rattle.relation_rows.proofs.Thinning.{none_left, one_more_left, all_left}
use Rattle.relation_rows.proofs.gather.outer_of.Goals as goal

pub loop-item-init : goal.loop-item-init
loop-item-init c = none_left c.args.items.now c.in_ok-left.left.items c.in_ok-left.ensures.items

pub loop-item-preserved : goal.loop-item-preserved
loop-item-preserved c =
    one_more_left c.args.items.now c.loop-item.item-index _ c.loop-item-test.true c.item-item.result c.item-item.is
    c.loop-item.left.items c.push_outer.new.items.items c.in_ok-push_outer.ensures c.loop-item.invariant

pub returns : goal.returns
returns c = all_left c.args.items.now c.loop-item.item-index c.loop-item.left.items c.loop-item-test.false c.loop-item.invariant
