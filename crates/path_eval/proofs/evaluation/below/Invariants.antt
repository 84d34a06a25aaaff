use Rattle.path_eval.specs.Filled.{IsFilling}
use Rattle.path_eval.proofs.evaluation.below.Given as goal

abbrev pub invariant-loop-k : goal.invariant-loop-k
invariant-loop-k l = IsFilling l.fn.ground l.initial.plans l.fn.no.0 l.k l.plans l.made
