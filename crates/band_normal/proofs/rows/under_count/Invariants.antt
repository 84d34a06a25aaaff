use Rattle.std.proofs.Common.{take}
use Rattle.band_normal.specs.declared.band.Band.{Band}
use Rattle.itpg_base.specs.Lists.{Among}
use Rattle.band_normal.specs.Rows.{IsUnder}
use Rattle.band_normal.proofs.rows.under_count.Given as goal

abbrev pub invariant-loop-i : goal.invariant-loop-i
invariant-loop-i l = (b : Band) → Among (take l.i l.rows) b → IsUnder b l.strip
