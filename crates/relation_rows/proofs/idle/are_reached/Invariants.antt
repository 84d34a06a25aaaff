use Rattle.itpg_base.specs.Lists.{Among}
use Rattle.relation_rows.specs.declared.rows.Row.{Row}
use Rattle.relation_rows.specs.Idle.{DepartsWith}
use Rattle.relation_rows.proofs.IdleRows.{SoFar}
use Rattle.relation_rows.proofs.idle.are_reached.Given as goal

abbrev pub invariant-loop-next : goal.invariant-loop-next
invariant-loop-next l = SoFar (λ r. (s : Row) × Among l.fn.rows s × DepartsWith s r) l.fn.second l.next-index
