use Rattle.std.proofs.Common.{sym, ◌∙◌}
use Rattle.zone_core.proofs.Numbers.{signed}
use Rattle.zone_core.proofs.steps.meets.Goals as goal
use Rattle.zone_core.proofs.steps.meets.Goals.{then-is_between, else-is_between}

pub overflow_sub-u : goal.overflow_sub-u
overflow_sub-u c = elim c.if-is_between.branch [
  | then-is_between w ↦
      let departure = c.is_between.ensures.0 w.if-is_between.true in
      let arrival = w.is_between-then-is_between.ensures.0 (sym w.value-is ∙ c.if-is_between-2.true) in
      omega signed
  | else-is_between w ↦ cc
]

pub returns-then-is_between-2 : goal.returns-then-is_between-2
returns-then-is_between-2 c = elim c.if-is_between.branch [
  | then-is_between w ↦
      let departure = c.is_between.ensures.0 w.if-is_between.true in
      let arrival = w.is_between-then-is_between.ensures.0 (sym w.value-is ∙ c.if-is_between-2.true) in (
        λ h.
            let difference = c.is_between-then-is_between-2.ensures.0 h in
            record {
              from = omega signed;
              to = omega signed;
              low = omega signed;
              high = omega signed;
              least = omega signed;
              most = omega signed;
            },
        λ m. c.is_between-then-is_between-2.ensures.1 (record { above = omega signed; below = omega signed }),
      )
  | else-is_between w ↦ cc
]

pub returns-else-is_between-2 : goal.returns-else-is_between-2
returns-else-is_between-2 c = elim c.if-is_between.branch [
  | then-is_between w ↦ (λ h. cc, λ m. w.value-is ∙ w.is_between-then-is_between.ensures.1 (record { above = omega signed; below = omega signed }))
  | else-is_between w ↦ (λ h. cc, λ m. w.value-is ∙ c.is_between.ensures.1 (record { above = omega signed; below = omega signed }))
]
