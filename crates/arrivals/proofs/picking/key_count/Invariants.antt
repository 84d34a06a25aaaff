use Rattle.std.proofs.Common.{take}
use Rattle.itpg_base.specs.Lists.{Among}
use Rattle.relation_rows.specs.declared.rows.Row.{Row}
use Rattle.relation_rows.specs.Rows.{HasKey}
use Rattle.arrivals.proofs.picking.key_count.Given as goal

abbrev pub invariant-loop-i : goal.invariant-loop-i
invariant-loop-i l = (r : Row) → Among (take l.i l.rows) r → HasKey r l.first.source.0 l.first.target.0
