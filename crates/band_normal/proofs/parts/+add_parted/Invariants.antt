use Rattle.std.proofs.Common.{length, ◌+◌, ◌*◌}
use Rattle.band_normal.proofs.PartLemmas.{IsParting}
use Rattle.band_normal.proofs.parts.+add_parted.Given as goal

abbrev pub invariant-loop-left : goal.invariant-loop-left
invariant-loop-left l = IsParting l.measure l.initial.left l.left l.fn.rows.items l.rows.items

abbrev pub decreases-loop-left : goal.decreases-loop-left
decreases-loop-left l = length l.left

abbrev pub decreases-add_parted : goal.decreases-add_parted
decreases-add_parted l = l.cuts * 64 + l.rounds
