use Rattle.repeat_engine.proofs.Growth.{made_new}
use Rattle.repeat_engine.proofs.Steps.{rest_makes}
use Rattle.repeat_engine.proofs.single_steps.trimmed.Goals as goal

pub returns-in-Ok-clause-new : goal.returns-in-Ok-clause-new
returns-in-Ok-clause-new g c x own k on n below makes =
    let m = g.C.Composed in
    let laws = g.met.C.Composed.lawful c.args.c.now in
    let rest = m.means c.in-Ok.rest in
    made_new laws x own k n rest below (rest_makes laws m.means x own k c.args.half.now on n (m.means c.args.made) makes rest c.in-Ok.ensures.value)
