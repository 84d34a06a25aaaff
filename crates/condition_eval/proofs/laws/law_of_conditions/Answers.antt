use Rattle.condition_eval.proofs.Meanings.{scoped_condition}
use Rattle.condition_eval.proofs.laws.law_of_conditions.Goals as goal

pub returns : goal.returns
returns c = λ g scope objects p rows marks are. scoped_condition g scope objects are p rows marks
