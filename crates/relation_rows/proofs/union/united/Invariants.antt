use Rattle.std.proofs.Common.{◌+◌, ◌≤◌, length}
use Rattle.relation_rows.proofs.Merged.{HasUnited}
use Rattle.relation_rows.proofs.union.united.Given as goal

abbrev pub invariant-loop-key : goal.invariant-loop-key
invariant-loop-key l = HasUnited l.fn.first l.fn.second l.left l.right l.rows.items × (length l.rows.items ≤ l.fn.max_rows)

abbrev pub decreases-loop-key : goal.decreases-loop-key
decreases-loop-key l = length l.left + length l.right
