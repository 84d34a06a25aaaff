use Rattle.std.proofs.Common.{◌+◌, length}
use Rattle.condition_eval.proofs.Sharing.{AreShared}
use Rattle.condition_eval.proofs.both.both.Given as goal

abbrev pub invariant-loop-row : goal.invariant-loop-row
invariant-loop-row l = AreShared l.fn.own l.fn.other l.left l.right l.rows.items

abbrev pub decreases-loop-row : goal.decreases-loop-row
decreases-loop-row l = length l.left + length l.right
