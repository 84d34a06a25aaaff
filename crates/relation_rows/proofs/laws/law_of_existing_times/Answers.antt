use Rattle.relation_rows.proofs.TimeLaws.{test_times}
use Rattle.relation_rows.proofs.laws.law_of_existing_times.Goals as goal

pub returns : goal.returns
returns c = test_times
