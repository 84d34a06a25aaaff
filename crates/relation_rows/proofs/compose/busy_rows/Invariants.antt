use Rattle.std.proofs.Common.{length}
use Rattle.relation_rows.proofs.Sources.{HasPassed}
use Rattle.relation_rows.proofs.compose.busy_rows.Given as goal

abbrev pub invariant-loop-first : goal.invariant-loop-first
invariant-loop-first l = HasPassed l.fn.rows l.left l.busy.items

abbrev pub decreases-loop-first : goal.decreases-loop-first
decreases-loop-first l = length l.left
