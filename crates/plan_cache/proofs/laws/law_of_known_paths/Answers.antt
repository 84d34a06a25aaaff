use Rattle.plan_cache.proofs.Known.{known}
use Rattle.plan_cache.proofs.laws.law_of_known_paths.Goals as goal

pub returns : goal.returns
returns c = known
