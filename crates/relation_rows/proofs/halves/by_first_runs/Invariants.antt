use Rattle.std.proofs.Common.{length}
use Rattle.relation_rows.proofs.HalfRows.{HaveRun}
use Rattle.relation_rows.proofs.halves.by_first_runs.Given as goal

abbrev pub invariant-loop-left : goal.invariant-loop-left
invariant-loop-left l = HaveRun l.fn.rows l.fn.others l.left l.all

abbrev pub decreases-loop-left : goal.decreases-loop-left
decreases-loop-left l = length l.left
