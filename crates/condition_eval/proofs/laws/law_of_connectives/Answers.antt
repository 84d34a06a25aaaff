use Rattle.condition_eval.proofs.Meanings.{both_hold, either_holds}
use Rattle.condition_eval.proofs.laws.law_of_connectives.Goals as goal

pub returns-clause-both : goal.returns-clause-both
returns-clause-both c = both_hold

pub returns-clause-either : goal.returns-clause-either
returns-clause-either c = either_holds
