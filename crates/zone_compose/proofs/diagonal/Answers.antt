use Rattle.std.proofs.Common.{SFits, w64, to_z-of_z}
use Rattle.zone_core.proofs.ZoneOf.{zone_of-same}
use Rattle.zone_compose.proofs.Moving.{stays-meets, stays-none}
use Rattle.zone_compose.proofs.diagonal.Goals as goal

pub returns-clause-zone : goal.returns-clause-zone
returns-clause-zone c =
    let from_fits : SFits w64 c.args.from = c.ranges.from in
    let to_fits : SFits w64 c.args.to = c.ranges.to in
    zone_of-same (stays-meets c.args.from c.args.to) (simp to_z-of_z at c.tight.ensures)

pub returns-clause-none : goal.returns-clause-none
returns-clause-none c =
    let from_fits : SFits w64 c.args.from = c.ranges.from in
    let to_fits : SFits w64 c.args.to = c.ranges.to in
    stays-none (zone_of-same (stays-meets c.args.from c.args.to) (simp to_z-of_z at c.tight.ensures))
