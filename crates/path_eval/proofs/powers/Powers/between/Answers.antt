use Rattle.std.proofs.lemmas.Result.{err_from_is_err_and}
use Rattle.path_eval.specs.Ready.{body_of}
use Rattle.path_eval.proofs.Ending.{union_fault}
use Rattle.path_eval.proofs.powers.Powers.between.Goals as goal

pub returns-in_err-rest : goal.returns-in_err-rest
returns-in_err-rest c =
    let s = c.args.self.now in
    let p = err_from_is_err_and c.from_residual.result c.from_residual.ensures.1 in
    rw (p.1, p.2)
    (union_fault s.ground.now.graph.now (body_of s) s.passed.now s.ground.now.max_rows s.relation.now c.requires.ready c.args.a.now c.args.b.now c.requires.passed
    c.args.least c.args.most _ c.in_err-rest.ensures)
