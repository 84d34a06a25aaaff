use Rattle.condition_eval.specs.Tested.{HoldsAt}
use Rattle.condition_eval.proofs.Meanings.{marks_unique}
use Rattle.condition_eval.proofs.laws.law_of_unique_marks.Goals as goal

pub returns : goal.returns
returns c = λ g objects t own other a b. marks_unique objects (HoldsAt t g) own other a b
