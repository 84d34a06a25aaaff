use Rattle.path_eval.specs.Ready.{body_of}
use Rattle.path_eval.proofs.Taking.{body_inside, body_fits, gives_power}
use Rattle.path_eval.proofs.powers.Powers.exactly.Goals as goal

pub power-requires-clause-own_x : goal.power-requires-clause-own_x
power-requires-clause-own_x c =
    let s = c.args.self.now in
    body_inside s.ground.now.graph.now (body_of s) s.passed.now s.ground.now.max_rows s.relation.now c.requires.ready

pub power-requires-clause-fits_x : goal.power-requires-clause-fits_x
power-requires-clause-fits_x c =
    let s = c.args.self.now in
    body_fits s.ground.now.graph.now (body_of s) s.passed.now s.ground.now.max_rows s.relation.now c.requires.ready

pub returns : goal.returns
returns c =
    let s = c.args.self.now in
    gives_power s.ground.now.graph.now (body_of s) s.passed.now s.ground.now.max_rows s.relation.now c.requires.ready
    c.args.n c.power.result c.power.ensures.value c.power.ensures.fits (c.power.ensures.exact c.requires.some)
