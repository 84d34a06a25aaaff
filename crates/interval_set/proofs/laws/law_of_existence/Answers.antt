use Rattle.std.proofs.Common.{IsTrue}
use Rattle.interval_set.proofs.Exists.{runs_exist, decide_test}
use Rattle.interval_set.proofs.laws.law_of_existence.Goals as goal

pub returns : goal.returns
returns c = λ test low high between. runs_exist (λ t. IsTrue (test t)) low high (λ t h. (between t h).0) (λ t h. (between t h).1) (λ t. decide_test (test t))
