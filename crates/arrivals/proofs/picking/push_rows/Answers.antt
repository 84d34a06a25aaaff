use Rattle.arrivals.specs.Choosing.{InBandOf}
use Rattle.itpg_base.proofs.Lists.{among_at}
use Rattle.arrivals.proofs.Pushing.{none_pushed, one_pushed, all_pushed}
use Rattle.arrivals.proofs.picking.push_rows.Goals as goal

pub zone_of-requires : goal.zone_of-requires
zone_of-requires c = c.requires _ (among_at c.args.rows.now c.loop-row.row-index _ c.loop-row-test.true)

pub loop-row-init : goal.loop-row-init
loop-row-init c = none_pushed InBandOf c.args.zones.now.items c.args.rows.now

pub loop-row-preserved : goal.loop-row-preserved
loop-row-preserved c =
    let pushed = c.in_ok-push.ensures.items in
    one_pushed InBandOf c.args.zones.now.items c.args.rows.now c.loop-row.row-index _ c.loop-row-test.true c.zone_of.result c.zone_of.ensures c.loop-row.zones.items c.push.new.self.items pushed c.loop-row.invariant

pub returns : goal.returns
returns c = all_pushed InBandOf c.args.zones.now.items c.args.rows.now c.loop-row.row-index c.loop-row.zones.items c.loop-row-test.false c.loop-row.invariant
