use Rattle.std.proofs.Common.{◌+◌}
use Rattle.repeat_engine.proofs.Growth.{less_new}
use Rattle.repeat_engine.proofs.doubling.without_former.Goals as goal

pub returns-in-Ok-clause-new : goal.returns-in-Ok-clause-new
returns-in-Ok-clause-new g c x own k on new =
    let m = g.C.Composed in
    let laws = g.met.C.Composed.lawful c.args.c.now in
    let former = c.in-Some.ensures.former x own k on in
    record {
      newest = less_new laws x own (k + k) (m.means c.in-Some.former) (m.means c.args.rest) (m.means c.in-Ok.less) c.in-Some.ensures.own c.requires.own_rest c.in-Ok.ensures.own former new c.in-Ok.ensures.value;
      former = former;
    }
