use Rattle.relation_rows.proofs.Exists.{test_exists}
use Rattle.relation_rows.proofs.laws.law_of_existence.Goals as goal

pub returns : goal.returns
returns c = test_exists
