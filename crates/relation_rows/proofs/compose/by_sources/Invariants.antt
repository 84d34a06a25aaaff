use Rattle.std.proofs.Common.{◌≤◌, length}
use Rattle.relation_rows.proofs.Composing.{HasComposed}
use Rattle.relation_rows.proofs.compose.by_sources.Given as goal

abbrev pub invariant-loop-first : goal.invariant-loop-first
invariant-loop-first l = HasComposed l.fn.rows l.fn.second l.left l.done.items × (length l.done.items ≤ l.fn.max_rows)

abbrev pub decreases-loop-first : goal.decreases-loop-first
decreases-loop-first l = length l.left
