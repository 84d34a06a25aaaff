use Rattle.zone_core.proofs.Pairs.{tight-met, tight-determined}
use Rattle.zone_core.proofs.Zone.bounds.Goals as goal

pub returns-clause-met : goal.returns-clause-met
returns-clause-met c = tight-met _ c.self.invariant.1

pub returns-clause-determined : goal.returns-clause-determined
returns-clause-determined c = tight-determined _ c.self.invariant.1
