use Rattle.interval_set.proofs.Unique.{coalesced_unique}
use Rattle.interval_set.proofs.laws.law_of_uniqueness.Goals as goal

pub returns : goal.returns
returns c = coalesced_unique
