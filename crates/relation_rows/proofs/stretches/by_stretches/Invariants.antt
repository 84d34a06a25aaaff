use Rattle.std.proofs.Common.{length}
use Rattle.relation_rows.proofs.Counting.{IsUnderway}
use Rattle.relation_rows.proofs.stretches.by_stretches.Given as goal

abbrev pub invariant-loop-left : goal.invariant-loop-left
invariant-loop-left l = IsUnderway l.fn.second l.initial.left l.left l.kept.items l.ways.items l.count l.fn.room

abbrev pub decreases-loop-left : goal.decreases-loop-left
decreases-loop-left l = length l.left
