use Rattle.plan_cache.proofs.Known.{child_below}
use Rattle.plan_cache.proofs.laws.law_of_lower_children.Goals as goal

pub returns : goal.returns
returns c = child_below
