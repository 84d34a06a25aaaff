use Rattle.relation_rows.specs.Idle.{IsIdle}
use Rattle.relation_rows.proofs.IdleRows.{SoFar}
use Rattle.relation_rows.proofs.idle.are_idle.Given as goal

abbrev pub invariant-loop-row : goal.invariant-loop-row
invariant-loop-row l = SoFar IsIdle l.fn.rows l.row-index
