use Rattle.path_eval.specs.Ready.{body_of}
use Rattle.path_eval.proofs.Taking.{body_inside, body_fits, gives_union}
use Rattle.path_eval.proofs.powers.Powers.at_most.Goals as goal

pub up_to-requires-clause-own_x : goal.up_to-requires-clause-own_x
up_to-requires-clause-own_x c =
    let s = c.args.self.now in
    body_inside s.ground.now.graph.now (body_of s) s.passed.now s.ground.now.max_rows s.relation.now c.requires.ready

pub up_to-requires-clause-fits_x : goal.up_to-requires-clause-fits_x
up_to-requires-clause-fits_x c =
    let s = c.args.self.now in
    body_fits s.ground.now.graph.now (body_of s) s.passed.now s.ground.now.max_rows s.relation.now c.requires.ready

pub returns : goal.returns
returns c =
    let s = c.args.self.now in
    gives_union s.ground.now.graph.now (body_of s) s.passed.now s.ground.now.max_rows s.relation.now c.requires.ready
    c.args.n c.requires.some c.up_to.result c.up_to.ensures.value c.up_to.ensures.fits c.up_to.ensures.exact
