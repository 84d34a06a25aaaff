use Rattle.std.proofs.Common.{◌-◌}
use Rattle.itpg_base.proofs.Labels.{AreBlock}
use Rattle.itpg_base.proofs.label_set.LabelSet.new.Given as goal

abbrev pub invariant-loop-place : goal.invariant-loop-place
invariant-loop-place l = AreBlock l.fn.labels l.names l.count l.place

abbrev pub decreases-loop-place : goal.decreases-loop-place
decreases-loop-place l = 8 - l.count
