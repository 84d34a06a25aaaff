use Rattle.zone_core.proofs.ZoneOf.{zone_of-same}
use Rattle.zone_core.proofs.Zone.meet.Goals as goal

pub returns : goal.returns
returns c = rw (← c.self.view_is, ← c.other.view_is) (zone_of-same c.both.ensures.pairs c.tight.ensures)
