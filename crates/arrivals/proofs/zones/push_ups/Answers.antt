use Rattle.zone_core.specs.Zone.{Meets}
use Rattle.arrivals.specs.Firsts.{IsAbove}
use Rattle.arrivals.proofs.Pushing.{none_pushed, one_pushed_as, all_pushed}
use Rattle.arrivals.proofs.zones.push_ups.Goals as goal

pub loop-zone-init : goal.loop-zone-init
loop-zone-init c = none_pushed (λ z. IsAbove (Meets z)) c.args.ups.now.items c.args.zones.now

pub loop-zone-preserved : goal.loop-zone-preserved
loop-zone-preserved c =
    let pushed = c.in_ok-push.ensures.items in
    one_pushed_as (λ z. IsAbove (Meets z)) c.args.ups.now.items c.args.zones.now c.loop-zone.zone-index c.zone-item.result c.zone-item.result c.loop-zone-test.true c.zone-item.is c.up_of.result c.up_of.ensures c.loop-zone.ups.items c.push.new.self.items pushed c.loop-zone.invariant

pub returns : goal.returns
returns c = all_pushed (λ z. IsAbove (Meets z)) c.args.ups.now.items c.args.zones.now c.loop-zone.zone-index c.loop-zone.ups.items c.loop-zone-test.false c.loop-zone.invariant
