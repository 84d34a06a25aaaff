use Rattle.std.proofs.Common.{◌+◌}
use Rattle.repeat_engine.proofs.Steps.{alone_is, on_below, step_makes, is_united}
use Rattle.repeat_engine.proofs.single_steps.step_from.Goals as goal

pub returns-clause-grows : goal.returns-clause-grows
returns-clause-grows g c k on =
    let m = g.C.Composed in
    let laws = g.met.C.Composed.lawful c.args.c.now in
    let x = m.means c.args.x.now in
    let below = (on_below laws m.means x c.requires.own_x k c.args.half.now on).0 in
    let makes = step_makes laws m.means x c.requires.own_x k c.args.half.now on c.newest_of.result.now (m.means c.in-Ok.made) c.newest_of.ensures c.requires.sound c.in-Ok.ensures.value in
    let is = is_united laws m.means x c.requires.own_x k c.args.half.now on (k + 1) (m.means c.in-Ok.made) makes (m.means c.in-Ok-union.all) c.in-Ok-union.ensures.value in
    c.grown_to.ensures.grows x c.requires.own_x k on (k + 1) below is
    (alone_is laws m.means x c.requires.own_x (k + 1) c.alone.result c.trimmed-newest.result c.alone.ensures.newest c.alone.ensures.former
    (c.trimmed-newest.ensures.new x c.requires.own_x k on (k + 1) below makes))
