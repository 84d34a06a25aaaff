use Rattle.std.proofs.Common.{◌+◌, length}
use Rattle.condition_eval.proofs.Merging.{AreMerged}
use Rattle.condition_eval.proofs.either.either.Given as goal

abbrev pub invariant-loop-row : goal.invariant-loop-row
invariant-loop-row l = AreMerged l.fn.own l.fn.other l.left l.right l.rows.items

abbrev pub decreases-loop-row : goal.decreases-loop-row
decreases-loop-row l = length l.left + length l.right
