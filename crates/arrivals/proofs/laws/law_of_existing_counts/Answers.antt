use Rattle.arrivals.proofs.CountExists.{counts_exist}
use Rattle.arrivals.proofs.laws.law_of_existing_counts.Goals as goal

pub returns : goal.returns
returns c = counts_exist
