use Rattle.std.proofs.Common.{◌≡◌, ◌<◌, length, take, ap, ◌∙◌, arith}
use Rattle.itpg_session.proofs.Planned.{with_plans_length, next_plan}
use Rattle.itpg_session.proofs.planning.replan.Goals as goal

pub set_plan-requires : goal.set_plan-requires
set_plan-requires c =
    let same : length c.loop-place.watches ≡ length c.args.watches.now = ap length c.loop-place.invariant ∙ with_plans_length (take c.loop-place.place c.args.numbers.now) c.args.watches.now in
    let test = c.loop-place-test.true in
    omega (arith, same, test, c.loop-place.auto.place-end, c.len-place-end.ensures.count)

pub loop-place-preserved : goal.loop-place-preserved
loop-place-preserved c =
    let test = c.loop-place-test.true in
    let there : c.loop-place.place < length c.args.numbers.now = omega (arith, c.requires, test, c.loop-place.auto.place-end, c.len-place-end.ensures.count) in
    c.set_plan.ensures ∙ next_plan c.args.numbers.now c.args.watches.now c.loop-place.watches c.loop-place.place _ there c.loop-place.invariant
