use Rattle.relation_rows.proofs.Leaving.{none_clear, one_more_clear, all_clear}
use Rattle.relation_rows.proofs.minus.are_clear_of.Goals as goal

pub loop-zone-init : goal.loop-zone-init
loop-zone-init c = none_clear c.args.zones.now c.args.cut.now

pub loop-zone-preserved : goal.loop-zone-preserved
loop-zone-preserved c =
    one_more_clear c.args.zones.now c.args.cut.now c.loop-zone.zone-index _ c.zone-item.result c.loop-zone-test.true c.zone-item.is
    c.meet.result c.meet.ensures c.in_default.is c.loop-zone.invariant

pub returns : goal.returns
returns c = λ h. all_clear c.args.zones.now c.args.cut.now c.loop-zone.zone-index c.loop-zone-test.false c.loop-zone.invariant
