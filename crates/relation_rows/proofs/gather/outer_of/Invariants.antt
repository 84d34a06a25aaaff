use Rattle.std.proofs.Common.{take}
use Rattle.relation_rows.proofs.Thinning.{HoldAlike}
use Rattle.relation_rows.proofs.gather.outer_of.Given as goal

abbrev pub invariant-loop-item : goal.invariant-loop-item
invariant-loop-item l = HoldAlike (take l.item-index l.fn.items) l.left.items
