use Rattle.std.proofs.Common.{take}
use Rattle.relation_rows.proofs.Leaving.{AreLeft}
use Rattle.relation_rows.proofs.minus.without_each.Given as goal

abbrev pub invariant-loop-cut : goal.invariant-loop-cut
invariant-loop-cut l = AreLeft l.fn.zones (take l.cut-index l.fn.cuts) l.left.items
