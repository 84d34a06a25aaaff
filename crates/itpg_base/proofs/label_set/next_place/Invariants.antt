use Rattle.std.proofs.Common.{take}
use Rattle.std.specs.Prelude.{slice_get}
use Rattle.itpg_base.specs.LabelSets.{IsNext}
use Rattle.itpg_base.proofs.label_set.next_place.Given as goal

abbrev pub invariant-loop-place : goal.invariant-loop-place
invariant-loop-place l = IsNext (take l.place l.fn.labels) (slice_get l.fn.labels l.fn.last) (slice_get l.fn.labels l.next)
