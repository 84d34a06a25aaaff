use Rattle.relation_rows.proofs.Covering.{HasFirst}
use Rattle.relation_rows.proofs.settle.row_of_all.Given as goal

abbrev pub invariant-loop-row : goal.invariant-loop-row
invariant-loop-row l = HasFirst l.fn.part l.row-index l.outer
