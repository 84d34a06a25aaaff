use Rattle.std.proofs.Common.{map}
use Rattle.band_normal.specs.Zones.{SomeMeets}
use Rattle.band_normal.proofs.Sorting.{normal_like}
use Rattle.relation_rows.proofs.ItemZones.{zone_of_item}
use Rattle.relation_rows.proofs.gather.bands_of_items.Goals as goal

pub returns-clause-normal : goal.returns-clause-normal
returns-clause-normal c =
    normal_like (SomeMeets c.fill_zones.new.zones.items) (SomeMeets (map zone_of_item c.args.items.now)) c.in_ok-bands.bands.items c.in_ok-fill_zones.ensures c.in_ok-bands.ensures.normal
