use Rattle.std.proofs.Common.{take}
use Rattle.relation_rows.proofs.ItemZones.{AreZonesOf}
use Rattle.relation_rows.proofs.gather.fill_zones.Given as goal

abbrev pub invariant-loop-item : goal.invariant-loop-item
invariant-loop-item l = AreZonesOf (take l.item-index l.fn.items) l.zones.items
