use Rattle.plan_cache.proofs.Edited.{kept_exactly}
use Rattle.plan_cache.proofs.laws.law_of_forgetting.Goals as goal

pub returns : goal.returns
returns c = kept_exactly
