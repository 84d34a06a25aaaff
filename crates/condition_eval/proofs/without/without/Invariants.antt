use Rattle.condition_eval.proofs.Cutting.{AreCut}
use Rattle.condition_eval.proofs.without.without.Given as goal

abbrev pub invariant-loop-row : goal.invariant-loop-row
invariant-loop-row l = AreCut l.fn.first l.fn.second l.row-index l.cuts l.rows.items
