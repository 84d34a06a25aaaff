use Rattle.std.proofs.Common.{◌≤◌, length}
use Rattle.relation_rows.proofs.Composing.{HasComposed}
use Rattle.relation_rows.proofs.compose.composed.Given as goal

abbrev pub invariant-loop-first : goal.invariant-loop-first
invariant-loop-first l = HasComposed l.fn.rows l.fn.second l.left l.done.items × (length l.done.items ≤ l.fn.max_rows)

abbrev pub decreases-loop-first : goal.decreases-loop-first
decreases-loop-first l = length l.left

abbrev pub invariant-loop-first-2 : goal.invariant-loop-first-2
invariant-loop-first-2 l = HasComposed l.fn.rows l.fn.second l.left l.done.items × (length l.done.items ≤ l.fn.max_rows)

abbrev pub decreases-loop-first-2 : goal.decreases-loop-first-2
decreases-loop-first-2 l = length l.left
