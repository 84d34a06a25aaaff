use Rattle.relation_rows.proofs.CutRows.{IsCutting}
use Rattle.relation_rows.proofs.times_minus.only_first.Given as goal

abbrev pub invariant-loop-row : goal.invariant-loop-row
invariant-loop-row l = IsCutting l.fn.first l.fn.second l.row-index l.cuts l.times.items
