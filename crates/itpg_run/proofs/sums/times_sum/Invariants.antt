use Rattle.std.proofs.Common.{◌≡◌, take}
use Rattle.itpg_run.specs.Sums.{residue, times_value, total}
use Rattle.itpg_run.proofs.sums.times_sum.Given as goal

abbrev pub invariant-loop-row : goal.invariant-loop-row
invariant-loop-row l = l.sum ≡ residue (total times_value (take l.row-index l.rows))
