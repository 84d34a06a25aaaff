use Rattle.std.proofs.Common.{length}
use Rattle.condition_eval.proofs.Cutting.{AreGoing}
use Rattle.condition_eval.proofs.without.going_at.Given as goal

abbrev pub invariant-loop-cut : goal.invariant-loop-cut
invariant-loop-cut l = AreGoing l.fn.cuts l.fn.row l.left

abbrev pub decreases-loop-cut : goal.decreases-loop-cut
decreases-loop-cut l = length l.left
