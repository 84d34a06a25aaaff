use Rattle.condition_eval.proofs.Meanings.{negated}
use Rattle.condition_eval.proofs.laws.law_of_negation.Goals as goal

pub returns : goal.returns
returns c = negated
