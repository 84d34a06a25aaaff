use Rattle.std.proofs.Common.{◌++◌, List, drop}
use Rattle.question_hints.specs.declared.hint.Hint.{Hint}
use Rattle.question_hints.specs.Certain.{AreCertain}
use Rattle.question_hints.proofs.certain.certain_of.Given as goal

abbrev pub invariant-loop-hint : goal.invariant-loop-hint
invariant-loop-hint l = (rest : List Hint) → AreCertain l.graph (drop l.hint-index l.asked) rest → AreCertain l.graph l.asked (l.hints.items ++ rest)
