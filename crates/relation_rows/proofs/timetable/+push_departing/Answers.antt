use Rattle.std.proofs.Common.{List, ◌++◌, ◌∙◌, ap, sym, arith}
use Rattle.relation_rows.specs.declared.timetable.Leg.{Leg}
use Rattle.relation_rows.proofs.Departing.{found_short, found_before, found_each, before_order, behind_order, before_reach, behind_reach}
use Rattle.relation_rows.proofs.timetable.+push_departing.Goals as goal

pub returns-then-is_short : goal.returns-then-is_short
returns-then-is_short t c =
    let whole = c.split_at.ensures.by_index.0 ∙ ap (λ (v : List Leg). c.split_at.result.0.now ++ v) c.in-Some.ensures.cases.0 in
    found_short c.args.legs.now c.split_at.result.0.now c.in-Some.behind.now c.in-Some.leg.now whole c.requires.order c.split_at.ensures.front_len c.requires.reach
    c.args.object.0 c.args.span.0 c.args.span.1 (sym c.is_short.ensures ∙ c.if-is_short.true) c.args.found.now.items

pub push_departing-requires : goal.push_departing-requires
push_departing-requires t c =
    let whole = c.split_at.ensures.by_index.0 ∙ ap (λ (v : List Leg). c.split_at.result.0.now ++ v) c.in-Some.ensures.cases.0 in (
      omega (arith, c.split_at.ensures.front_len, c.split_at.ensures.back_len, c.in-Some.ensures.cases.1),
      (
        before_order c.args.legs.now c.split_at.result.0.now c.in-Some.behind.now c.in-Some.leg.now whole c.requires.order,
        before_reach c.args.legs.now c.split_at.result.0.now c.in-Some.behind.now c.in-Some.leg.now whole c.requires.order c.split_at.ensures.front_len c.requires.reach,
      ),
    )

pub returns-then-not-is_departed_by : goal.returns-then-not-is_departed_by
returns-then-not-is_departed_by t c =
    let whole = c.split_at.ensures.by_index.0 ∙ ap (λ (v : List Leg). c.split_at.result.0.now ++ v) c.in-Some.ensures.cases.0 in
    found_before c.args.legs.now c.split_at.result.0.now c.in-Some.behind.now c.in-Some.leg.now whole c.requires.order
    c.args.object.0 c.args.span.0 c.args.span.1 (sym c.is_departed_by.ensures ∙ c.if-not-is_departed_by.true) c.args.found.now.items c.push_departing.new.found.items c.in_ok-push_departing.ensures

pub push_departing-requires-2 : goal.push_departing-requires-2
push_departing-requires-2 t c =
    let whole = c.split_at.ensures.by_index.0 ∙ ap (λ (v : List Leg). c.split_at.result.0.now ++ v) c.in-Some.ensures.cases.0 in (
      omega (arith, c.split_at.ensures.front_len, c.split_at.ensures.back_len, c.in-Some.ensures.cases.1),
      (
        behind_order c.args.legs.now c.split_at.result.0.now c.in-Some.behind.now c.in-Some.leg.now whole c.requires.order,
        behind_reach c.args.legs.now c.split_at.result.0.now c.in-Some.behind.now c.in-Some.leg.now whole c.requires.order c.split_at.ensures.front_len c.requires.reach,
      ),
    )

pub returns : goal.returns
returns t c =
    let whole = c.split_at.ensures.by_index.0 ∙ ap (λ (v : List Leg). c.split_at.result.0.now ++ v) c.in-Some.ensures.cases.0 in
    found_each c.args.legs.now c.split_at.result.0.now c.in-Some.behind.now c.in-Some.leg.now whole c.requires.order
    c.args.object.0 c.args.span.0 c.args.span.1 c.args.found.now.items c.push_departing.new.found.items c.push_found-2.new.found.items c.push_departing-2.new.found.items
    c.in_ok-push_departing.ensures c.in_ok-push_found.ensures c.in_ok-push_departing-2.ensures
