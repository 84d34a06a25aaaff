use Rattle.std.proofs.Common.{ℕ, ◌<◌}
use Rattle.question_hints.specs.Certain.{Has}
use Rattle.question_hints.proofs.having.none_has.Given as goal

abbrev pub invariant-loop-number : goal.invariant-loop-number
invariant-loop-number l = (o : ℕ) → o < l.number → ¬ Has l.graph l.wanted o
