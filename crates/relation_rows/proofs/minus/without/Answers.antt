use Rattle.relation_rows.proofs.Leaving.{none_without, without_more, all_without}
use Rattle.relation_rows.proofs.minus.without.Goals as goal

pub loop-zone-init : goal.loop-zone-init
loop-zone-init c = none_without c.args.zones.now c.args.cut.now c.in_ok-left.left.items c.in_ok-left.ensures.items

pub loop-zone-preserved : goal.loop-zone-preserved
loop-zone-preserved c =
    without_more c.args.zones.now c.args.cut.now c.loop-zone.zone-index _ c.zone-item.result c.loop-zone-test.true c.zone-item.is
    c.loop-zone.left.items c.push_without.new.left.items c.in_ok-push_without.ensures c.loop-zone.invariant

pub returns : goal.returns
returns c = all_without c.args.zones.now c.args.cut.now c.loop-zone.zone-index c.loop-zone.left.items c.loop-zone-test.false c.loop-zone.invariant
