use Rattle.relation_rows.proofs.Leaving.{none_within, within_more, all_within}
use Rattle.relation_rows.proofs.minus.within.Goals as goal

pub loop-zone-init : goal.loop-zone-init
loop-zone-init c = none_within c.args.zones.now c.args.part.now c.in_ok-shared.shared.items c.in_ok-shared.ensures.items

pub loop-zone-preserved : goal.loop-zone-preserved
loop-zone-preserved c =
    within_more c.args.zones.now c.args.part.now c.loop-zone.zone-index _ c.zone-item.result c.loop-zone-test.true c.zone-item.is
    c.loop-zone.shared.items c.push_shared.new.shared.items c.in_ok-push_shared.ensures c.loop-zone.invariant

pub returns : goal.returns
returns c = all_within c.args.zones.now c.args.part.now c.loop-zone.zone-index c.loop-zone.shared.items c.loop-zone-test.false c.loop-zone.invariant
