use Rattle.std.proofs.Common.{List, [], sym, subst}
use Rattle.plan_cache.specs.Nodes.{PlanNode}
use Rattle.plan_cache.specs.Growing.{AddsUnder}
use Rattle.plan_cache.specs.Refilled.{numbers_of}
use Rattle.plan_cache.proofs.plans.Plans.refill.Goals as goal

pub returns-clause-only : goal.returns-clause-only
returns-clause-only c = subst (λ (nodes : List PlanNode). AddsUnder [] nodes (numbers_of c.in_ok-numbers.numbers.items)) (sym c.in_ok-replace.ensures.nodes) c.in_ok-numbers.ensures.only
