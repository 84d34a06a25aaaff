use Rattle.std.proofs.Common.{take, ◌≤ℤ◌}
use Rattle.band_normal.specs.declared.band.Band.{Band}
use Rattle.itpg_base.specs.Lists.{Among}
use Rattle.band_normal.proofs.active.begun_count.Given as goal

abbrev pub invariant-loop-i : goal.invariant-loop-i
invariant-loop-i l = (b : Band) → Among (take l.i l.waiting) b → b.from ≤ℤ l.left.from
