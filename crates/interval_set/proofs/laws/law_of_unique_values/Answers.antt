use Rattle.interval_set.proofs.UniqueValues.{values_unique}
use Rattle.interval_set.proofs.laws.law_of_unique_values.Goals as goal

pub returns : goal.returns
returns c = values_unique
