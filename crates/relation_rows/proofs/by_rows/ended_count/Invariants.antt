use Rattle.std.proofs.Common.{take, ◌<ℤ◌}
use Rattle.itpg_base.specs.Lists.{Among}
use Rattle.relation_rows.specs.declared.rows.Row.{Row}
use Rattle.relation_rows.proofs.by_rows.ended_count.Given as goal

abbrev pub invariant-loop-i : goal.invariant-loop-i
invariant-loop-i l = (c : Row) → Among (take l.i l.fn.cuts) c → c.band.to <ℤ l.fn.row.band.from
