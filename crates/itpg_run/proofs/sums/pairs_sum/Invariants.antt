use Rattle.std.proofs.Common.{◌≡◌, take}
use Rattle.itpg_run.specs.Sums.{residue, pair_value, total}
use Rattle.itpg_run.proofs.sums.pairs_sum.Given as goal

abbrev pub invariant-loop-row : goal.invariant-loop-row
invariant-loop-row l = l.sum ≡ residue (total pair_value (take l.row-index l.rows))
