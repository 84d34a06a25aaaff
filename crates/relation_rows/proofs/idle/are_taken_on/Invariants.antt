use Rattle.itpg_base.specs.Lists.{Among}
use Rattle.relation_rows.specs.declared.rows.Row.{Row}
use Rattle.relation_rows.specs.Idle.{TakesOn}
use Rattle.relation_rows.proofs.IdleRows.{SoFar}
use Rattle.relation_rows.proofs.idle.are_taken_on.Given as goal

abbrev pub invariant-loop-row : goal.invariant-loop-row
invariant-loop-row l = SoFar (λ r. (s : Row) × Among l.fn.second s × TakesOn s r) l.fn.rows l.row-index
