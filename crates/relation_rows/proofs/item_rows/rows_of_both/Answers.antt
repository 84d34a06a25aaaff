use Rattle.relation_rows.proofs.Covering.{all_items, one_more_item, rows_alone}
use Rattle.relation_rows.proofs.item_rows.rows_of_both.Goals as goal

pub loop-item-init : goal.loop-item-init
loop-item-init c = rows_alone c.args.items.now c.args.rows.now c.in_ok-both.both.items c.extend_from_slice.new.self.items c.requires c.in_ok-both.ensures.items c.in_ok-extend_from_slice.ensures.items

pub loop-item-preserved : goal.loop-item-preserved
loop-item-preserved c =
    one_more_item c.args.items.now c.args.rows.now c.loop-item.item-index _ c.loop-item-test.true c.item-item.result c.item-item.is c.loop-item.both.items c.push_rows_of.new.rows.items
    c.loop-item.invariant c.in_ok-push_rows_of.ensures

pub returns : goal.returns
returns c = all_items c.args.items.now c.args.rows.now c.loop-item.both.items c.loop-item.item-index c.loop-item-test.false c.loop-item.invariant
