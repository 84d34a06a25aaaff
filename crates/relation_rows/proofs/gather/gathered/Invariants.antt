use Rattle.std.proofs.Common.{◌≤◌, length}
use Rattle.relation_rows.proofs.Gathering.{HasGathered}
use Rattle.relation_rows.proofs.gather.gathered.Given as goal

abbrev pub invariant-loop-first : goal.invariant-loop-first
invariant-loop-first l = HasGathered l.fn.items l.left l.rows.items × (length l.rows.items ≤ l.fn.room)

abbrev pub decreases-loop-first : goal.decreases-loop-first
decreases-loop-first l = length l.left
