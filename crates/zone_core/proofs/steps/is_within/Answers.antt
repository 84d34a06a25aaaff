use Rattle.std.proofs.Common.{rules, sym, ◌∙◌}
use Rattle.zone_core.proofs.Pairs.{pairs-within, within-pairs}
use Rattle.zone_core.proofs.ReadBack.{le_back, le_there}
use Rattle.zone_core.proofs.steps.is_within.Goals as goal
use Rattle.zone_core.proofs.steps.is_within.Goals.{then-is_in_span, else-is_in_span}

pub returns-then-is_in_span-2 : goal.returns-then-is_in_span-2
returns-then-is_in_span-2 c = elim c.if-is_in_span.branch [
  | then-is_in_span w ↦
      let departures = c.is_in_span.ensures.0 w.if-is_in_span.true in
      let arrivals = w.is_in_span-then-is_in_span.ensures.0 (sym w.value-is ∙ c.if-is_in_span-2.true) in (
        λ h.
            let differences = c.is_in_span-then-is_in_span-2.ensures.0 h in
            within-pairs c.args.k c.args.o (record {
              a = le_back _ _ (search rules) (search rules) departures.0;
              b = le_back _ _ (search rules) (search rules) departures.1;
              c = le_back _ _ (search rules) (search rules) arrivals.0;
              d = le_back _ _ (search rules) (search rules) arrivals.1;
              e = le_back _ _ (search rules) (search rules) differences.0;
              f = le_back _ _ (search rules) (search rules) differences.1;
            }),
        λ all.
            let within = pairs-within c.args.k c.args.o c.requires all in
            c.is_in_span-then-is_in_span-2.ensures.1 (
              le_there _ _ (search rules) (search rules) within.e,
              le_there _ _ (search rules) (search rules) within.f,
            ),
      )
  | else-is_in_span w ↦ cc
]

pub returns-else-is_in_span-2 : goal.returns-else-is_in_span-2
returns-else-is_in_span-2 c = elim c.if-is_in_span.branch [
  | then-is_in_span w ↦ (
    λ h. cc,
    λ all.
        let within = pairs-within c.args.k c.args.o c.requires all in
        w.value-is ∙ w.is_in_span-then-is_in_span.ensures.1 (
          le_there _ _ (search rules) (search rules) within.c,
          le_there _ _ (search rules) (search rules) within.d,
        ),
  )
  | else-is_in_span w ↦ (
    λ h. cc,
    λ all.
        let within = pairs-within c.args.k c.args.o c.requires all in
        w.value-is ∙ c.is_in_span.ensures.1 (
          le_there _ _ (search rules) (search rules) within.a,
          le_there _ _ (search rules) (search rules) within.b,
        ),
  )
]
