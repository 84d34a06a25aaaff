use Rattle.condition_eval.proofs.Meanings.{scoped_test}
use Rattle.condition_eval.proofs.laws.law_of_tests_as_paths.Goals as goal

pub returns : goal.returns
returns c = λ g scope objects t marks are. scoped_test g scope objects are t marks
