use Rattle.relation_rows.proofs.Arriving.{TimesSoFar}
use Rattle.relation_rows.proofs.times.times_of.Given as goal

abbrev pub invariant-loop-row : goal.invariant-loop-row
invariant-loop-row l = TimesSoFar l.fn.side l.fn.rows l.row-index l.times.items
