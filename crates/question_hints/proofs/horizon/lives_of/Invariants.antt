use Rattle.question_hints.specs.Horizons.{AreLivesOf}
use Rattle.question_hints.proofs.LivesLemmas.{ExistsBelow}
use Rattle.question_hints.proofs.horizon.lives_of.Given as goal

abbrev pub invariant-loop-number : goal.invariant-loop-number
invariant-loop-number l = AreLivesOf (ExistsBelow l.graph l.number) l.lives
