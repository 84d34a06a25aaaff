use Rattle.std.proofs.Common.{take}
use Rattle.relation_rows.proofs.Leaving.{AreWithout}
use Rattle.relation_rows.proofs.minus.without.Given as goal

abbrev pub invariant-loop-zone : goal.invariant-loop-zone
invariant-loop-zone l = AreWithout (take l.zone-index l.fn.zones) l.fn.cut l.left.items
