use Rattle.std.proofs.Common.{take}
use Rattle.relation_rows.proofs.Leaving.{AreShared}
use Rattle.relation_rows.proofs.minus.within.Given as goal

abbrev pub invariant-loop-zone : goal.invariant-loop-zone
invariant-loop-zone l = AreShared (take l.zone-index l.fn.zones) l.fn.part l.shared.items
