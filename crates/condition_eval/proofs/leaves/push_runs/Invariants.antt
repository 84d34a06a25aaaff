use Rattle.std.proofs.Common.{◌≡◌, ◌++◌, take}
use Rattle.interval_set.proofs.WithValue.{spans_with}
use Rattle.condition_eval.specs.Walking.{over_spans}
use Rattle.condition_eval.proofs.leaves.push_runs.Given as goal

abbrev pub invariant-loop-place : goal.invariant-loop-place
invariant-loop-place l = l.rows.items ≡ l.initial.rows.items ++ over_spans l.fn.object (spans_with l.fn.value (take l.place l.fn.values))
