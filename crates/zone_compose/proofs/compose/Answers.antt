use Rattle.std.proofs.Common.{◌<ℤ◌}
use Rattle.zone_core.proofs.Numbers.{signed}
use Rattle.zone_core.proofs.ZoneOf.{zone_of-none, zone_of-same}
use Rattle.zone_compose.proofs.MiddleMoment.{no_middle}
use Rattle.zone_compose.proofs.compose.Goals as goal

pub returns-then-middle : goal.returns-then-middle
returns-then-middle c =
    let disorder : c.shared-middle.result.high <ℤ c.shared-middle.result.low = omega signed in
    rw (← c.bounds-x.ensures.same, ← c.bounds-y.ensures.same)
    (zone_of-none (no_middle _ _ _ c.shared-middle.ensures disorder))

pub returns : goal.returns
returns c =
    rw (← c.bounds-x.ensures.same, ← c.bounds-y.ensures.same)
    (zone_of-same c.composed.ensures.pairs c.tight.ensures)
