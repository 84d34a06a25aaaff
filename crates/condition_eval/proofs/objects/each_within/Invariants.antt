use Rattle.condition_eval.proofs.Finding.{FoundBelow}
use Rattle.std.proofs.Common.{◌-◌, length}
use Rattle.condition_eval.proofs.objects.each_within.Given as goal

abbrev pub invariant-loop-object : goal.invariant-loop-object
invariant-loop-object l = FoundBelow l.fn.scope l.fn.graph l.from l.objects.items

abbrev pub decreases-loop-object : goal.decreases-loop-object
decreases-loop-object l = length l.fn.graph.objects - l.from
