use Rattle.std.proofs.Common.{length}
use Rattle.relation_rows.proofs.Subtracting.{HasSubtracted}
use Rattle.relation_rows.proofs.minus.only_in_first.Given as goal

abbrev pub invariant-loop-row : goal.invariant-loop-row
invariant-loop-row l = HasSubtracted l.fn.first l.fn.second l.left l.items.items

abbrev pub decreases-loop-row : goal.decreases-loop-row
decreases-loop-row l = length l.left
