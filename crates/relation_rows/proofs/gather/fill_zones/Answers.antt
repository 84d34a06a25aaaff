use Rattle.std.proofs.Common.{ap}
use Rattle.relation_rows.proofs.ItemZones.{zone_of_item, no_zones, zone_more, all_zones}
use Rattle.relation_rows.proofs.gather.fill_zones.Goals as goal

pub loop-item-init : goal.loop-item-init
loop-item-init c = no_zones c.args.items.now _ c.clear.ensures.items

pub loop-item-preserved : goal.loop-item-preserved
loop-item-preserved c =
    zone_more c.args.items.now c.loop-item.item-index _ c.loop-item-test.true (c.item-item.result).2 (ap zone_of_item c.item-item.is)
    c.loop-item.zones.items c.push_zone.new.zones.items c.in_ok-push_zone.ensures c.loop-item.invariant

pub returns : goal.returns
returns c = all_zones c.args.items.now c.loop-item.item-index c.loop-item.zones.items c.loop-item-test.false c.loop-item.invariant
