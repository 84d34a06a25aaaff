use Rattle.band_normal.specs.Zones.{SomeMeets}
use Rattle.band_normal.proofs.Sorting.{normal_like}
use Rattle.arrivals.specs.Firsts.{IsAbove}
use Rattle.arrivals.proofs.Ups.{few_above}
use Rattle.arrivals.proofs.zones.above.Goals as goal

pub returns-clause-normal : goal.returns-clause-normal
returns-clause-normal c = normal_like (SomeMeets c.push_ups.new.ups.items) (IsAbove (SomeMeets c.args.zones.now)) c.in_ok-bands.bands.items
    (few_above c.new-ups.result.items c.push_ups.new.ups.items c.args.zones.now c.new-ups.ensures.items c.in_ok-push_ups.ensures) c.in_ok-bands.ensures.normal
