use Rattle.std.proofs.Common.{◌≤ℤ◌, take}
use Rattle.itpg_base.specs.Lists.{Among}
use Rattle.relation_rows.specs.declared.rows.Row.{Row}
use Rattle.relation_rows.proofs.stretches.stretch_len.Given as goal

abbrev pub invariant-loop-i : goal.invariant-loop-i
invariant-loop-i l = (r : Row) → Among (take l.i l.rows) r → r.band.to ≤ℤ l.last
