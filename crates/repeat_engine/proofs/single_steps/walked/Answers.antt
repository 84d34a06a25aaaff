use Rattle.std.proofs.Common.{◌≡◌, ◌+◌, ◌≤◌, arith}
use Rattle.repeat_engine.proofs.Steps.{latest_sound, latest_on, last_sound, last_at, latest_next, done_at}
use Rattle.repeat_engine.proofs.single_steps.walked.Goals as goal

pub step_from-requires-clause-sound : goal.step_from-requires-clause-sound
step_from-requires-clause-sound g c =
    let m = g.C.Composed in
    let laws = g.met.C.Composed.lawful c.args.c.now in
    let x = m.means c.args.x.now in
    latest_sound laws m.means x c.requires.own_x c.args.k c.loop-step.step c.loop-step.last c.args.half.now c.latest_of-from.result.now c.latest_of-from.ensures c.loop-step.invariant c.requires.sound

pub returns-then-next-clause-grows : goal.returns-then-next-clause-grows
returns-then-next-clause-grows g c =
    let m = g.C.Composed in
    let laws = g.met.C.Composed.lawful c.args.c.now in
    let x = m.means c.args.x.now in
    let i = c.loop-step.step in
    let on = latest_on laws m.means x c.requires.own_x c.args.k i c.loop-step.last c.args.half.now c.latest_of-from.result.now c.latest_of-from.ensures c.loop-step.invariant c.requires.grows in
    let le : c.args.k + i + 1 ≤ c.args.k + c.args.k = omega arith in
    done_at laws m.means x c.requires.own_x (c.args.k + i + 1) (c.args.k + c.args.k) c.in_ok-next.next le c.if-next.true (c.in_ok-next.ensures.grows (c.args.k + i) on)

pub loop-step-preserved : goal.loop-step-preserved
loop-step-preserved g c =
    let m = g.C.Composed in
    let laws = g.met.C.Composed.lawful c.args.c.now in
    let x = m.means c.args.x.now in
    let i = c.loop-step.step in
    let on = latest_on laws m.means x c.requires.own_x c.args.k i c.loop-step.last c.args.half.now c.latest_of-from.result.now c.latest_of-from.ensures c.loop-step.invariant c.requires.grows in
    latest_next laws m.means x c.requires.own_x c.args.k i c.in_ok-next.next c.requires.grows.some c.if-next.false c.in_ok-next.ensures.sound (c.in_ok-next.ensures.grows (c.args.k + i) on)

pub returns-clause-sound : goal.returns-clause-sound
returns-clause-sound g c =
    let m = g.C.Composed in
    let laws = g.met.C.Composed.lawful c.args.c.now in
    let x = m.means c.args.x.now in
    last_sound laws m.means x c.requires.own_x c.args.k c.loop-step.step c.loop-step.last c.loop-step.invariant

pub returns-clause-grows : goal.returns-clause-grows
returns-clause-grows g c =
    let m = g.C.Composed in
    let laws = g.met.C.Composed.lawful c.args.c.now in
    let x = m.means c.args.x.now in
    let last : c.loop-step.step ≡ c.args.k = omega arith in
    last_at laws m.means x c.requires.own_x c.args.k c.loop-step.step c.loop-step.last last c.loop-step.invariant
