use Rattle.std.proofs.Common.{◌+◌, ◌≤◌}
use Rattle.path_eval.specs.Reached.{IsMarking}
use Rattle.path_eval.proofs.reaching.reached.Given as goal

abbrev pub invariant-loop-rest : goal.invariant-loop-rest
invariant-loop-rest l = (l.rest ≤ l.fn.no.0 + 1) × IsMarking l.fn.plans.nodes l.fn.plans.kept l.fn.no.0 l.rest l.marks.items

abbrev pub decreases-loop-rest : goal.decreases-loop-rest
decreases-loop-rest l = l.rest
