use Rattle.std.proofs.Common.{◌≡◌, ◌++◌, take}
use Rattle.condition_eval.specs.Walking.{over_spans}
use Rattle.condition_eval.proofs.leaves.push_spans.Given as goal

abbrev pub invariant-loop-span : goal.invariant-loop-span
invariant-loop-span l = l.rows.items ≡ l.initial.rows.items ++ over_spans l.fn.object (take l.span-index l.fn.spans)
