use Rattle.path_eval.specs.Ready.{body_of}
use Rattle.path_eval.proofs.Taking.{body_inside, body_fits, gives_all}
use Rattle.path_eval.proofs.powers.Powers.any_number.Goals as goal

pub closure-requires-clause-own_x : goal.closure-requires-clause-own_x
closure-requires-clause-own_x c =
    let s = c.args.self.now in
    body_inside s.ground.now.graph.now (body_of s) s.passed.now s.ground.now.max_rows s.relation.now c.requires.ready

pub closure-requires-clause-fits_x : goal.closure-requires-clause-fits_x
closure-requires-clause-fits_x c =
    let s = c.args.self.now in
    body_fits s.ground.now.graph.now (body_of s) s.passed.now s.ground.now.max_rows s.relation.now c.requires.ready

pub returns : goal.returns
returns c =
    let s = c.args.self.now in
    gives_all s.ground.now.graph.now (body_of s) s.passed.now s.ground.now.max_rows s.relation.now c.requires.ready
    c.closure.result c.closure.ensures.value c.closure.ensures.fits c.closure.ensures.exact
