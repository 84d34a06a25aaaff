use Rattle.arrivals.specs.Choosing.{InBandOf}
use Rattle.arrivals.proofs.Pushing.{pushed_alone}
use Rattle.arrivals.proofs.picking.zones_of.Goals as goal

pub returns : goal.returns
returns c = pushed_alone InBandOf c.new-zones.result.items c.args.rows.now c.push_rows.new.zones.items c.new-zones.ensures.items c.in_ok-push_rows.ensures
