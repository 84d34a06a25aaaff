use Rattle.zone_core.proofs.Numbers.{signed}
use Rattle.zone_core.proofs.steps.is_in_order.Goals as goal
use Rattle.zone_core.proofs.steps.is_in_order.Goals.{then-k, else-k}

pub returns-then-k-2 : goal.returns-then-k-2
returns-then-k-2 c = elim c.if-k.branch [
  | then-k w ↦ (
    λ h. record {
      departures = grind signed;
      arrivals = grind signed;
      differences = grind signed;
    },
    λ m. grind signed,
  )
  | else-k w ↦ cc
]
