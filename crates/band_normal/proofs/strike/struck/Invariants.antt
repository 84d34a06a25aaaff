use Rattle.std.proofs.Common.{◌+◌, length}
use Rattle.band_normal.proofs.StrikeLemmas.{AreStriking}
use Rattle.band_normal.proofs.strike.struck.Given as goal

abbrev pub invariant-loop-row : goal.invariant-loop-row
invariant-loop-row l = AreStriking l.fn.first l.fn.second l.kept.items l.left l.cuts.items l.right

abbrev pub decreases-loop-row : goal.decreases-loop-row
decreases-loop-row l = length l.left + length l.right
