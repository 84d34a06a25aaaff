use Rattle.std.proofs.Common.{SFits, w64, to_z-of_z}
use Rattle.zone_core.proofs.ZoneOf.{zone_of-same}
use Rattle.zone_compose.proofs.Moving.{moves-meets}
use Rattle.zone_compose.proofs.shift.Goals as goal

pub returns : goal.returns
returns c =
    let step_fits : SFits w64 c.args.step = c.ranges.step in
    let from_fits : SFits w64 c.args.from = c.ranges.from in
    let to_fits : SFits w64 c.args.to = c.ranges.to in
    zone_of-same (moves-meets c.args.step c.args.from c.args.to) (simp to_z-of_z at c.tight.ensures)
