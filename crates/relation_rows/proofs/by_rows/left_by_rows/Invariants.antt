use Rattle.relation_rows.proofs.ByRows.{HasTaken}
use Rattle.relation_rows.proofs.by_rows.left_by_rows.Given as goal

abbrev pub invariant-loop-row : goal.invariant-loop-row
invariant-loop-row l = HasTaken l.fn.rows l.fn.cuts l.row-index l.later l.left.items
