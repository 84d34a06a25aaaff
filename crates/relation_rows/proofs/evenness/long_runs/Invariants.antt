use Rattle.std.proofs.Common.{length}
use Rattle.relation_rows.proofs.evenness.long_runs.Given as goal

abbrev pub decreases-loop-left : goal.decreases-loop-left
decreases-loop-left l = length l.left
