use Rattle.relation_rows.proofs.Leaving.{no_items, item_more, all_items}
use Rattle.arrivals.proofs.picking.push_items.Goals as goal

pub loop-zone-init : goal.loop-zone-init
loop-zone-init c = no_items c.args.row.now c.args.items.now.items c.args.zones.now

pub loop-zone-preserved : goal.loop-zone-preserved
loop-zone-preserved c =
    let pushed = c.in_ok-push.ensures.items in
    item_more c.args.row.now c.args.items.now.items c.args.zones.now c.loop-zone.zone-index c.zone-item.result c.zone-item.result c.loop-zone-test.true c.zone-item.is c.loop-zone.items.items c.push.new.self.items pushed c.loop-zone.invariant

pub returns : goal.returns
returns c = all_items c.args.row.now c.args.items.now.items c.args.zones.now c.loop-zone.zone-index c.loop-zone.items.items c.loop-zone-test.false c.loop-zone.invariant
