use Rattle.std.proofs.Common.{take}
use Rattle.itpg_base.specs.Lists.{Among}
use Rattle.relation_rows.specs.declared.rows.Row.{Row}
use Rattle.relation_rows.specs.Timetables.{Reaches}
use Rattle.relation_rows.proofs.timetable.reach_of.Given as goal

abbrev pub invariant-loop-row : goal.invariant-loop-row
invariant-loop-row l = (r : Row) → Among (take l.row-index l.rows) r → Reaches l.reach r
