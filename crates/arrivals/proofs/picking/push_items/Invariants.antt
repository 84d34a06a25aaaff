use Rattle.std.proofs.Common.{take}
use Rattle.relation_rows.proofs.Leaving.{ItemsPushed}
use Rattle.arrivals.proofs.picking.push_items.Given as goal

abbrev pub invariant-loop-zone : goal.invariant-loop-zone
invariant-loop-zone l = ItemsPushed l.fn.row l.initial.items.items (take l.zone-index l.fn.zones) l.items.items
