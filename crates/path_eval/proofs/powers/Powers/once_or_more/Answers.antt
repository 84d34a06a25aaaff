use Rattle.std.proofs.lemmas.Result.{err_from_is_err_and}
use Rattle.std.specs.Prelude.{None}
use Rattle.path_eval.specs.Ready.{body_of}
use Rattle.path_eval.proofs.Ending.{power_fault}
use Rattle.path_eval.proofs.Returning.{return_fault, once_between}
use Rattle.path_eval.proofs.powers.Powers.once_or_more.Goals as goal

pub returns-in_err-power : goal.returns-in_err-power
returns-in_err-power c =
    let s = c.args.self.now in
    let p = err_from_is_err_and c.from_residual.result c.from_residual.ensures.1 in
    rw (p.1, p.2)
    (power_fault s.ground.now.graph.now (body_of s) s.passed.now s.ground.now.max_rows s.relation.now c.requires.ready c.args.a.now c.args.b.now c.requires.passed 1 None _ c.in_err-power.ensures)

pub returns-in_err-back : goal.returns-in_err-back
returns-in_err-back c =
    let s = c.args.self.now in
    let power = c.in_ok-power.ensures in
    let p = err_from_is_err_and c.from_residual-in_err-back.result c.from_residual-in_err-back.ensures.1 in
    rw (p.1, p.2)
    (return_fault s.ground.now.graph.now (body_of s) s.passed.now s.ground.now.max_rows s.relation.now c.requires.ready c.args.a.now c.args.b.now c.requires.passed
    c.in_ok-power.power c.args.rest.now power.0 c.requires.rest c.in_ok-first.first c.in_ok-both.both c.in_ok-first.ensures.rows c.in_ok-both.ensures.rows _ c.in_err-back.ensures)

pub returns : goal.returns
returns c =
    let s = c.args.self.now in
    let power = c.in_ok-power.ensures in
    let back = c.in_ok-back.ensures in
    once_between s.ground.now.graph.now (body_of s) s.passed.now s.ground.now.max_rows s.relation.now c.requires.ready c.args.a.now c.args.b.now c.requires.passed
    c.in_ok-power.power c.args.rest.now power.0 c.requires.rest c.in_ok-first.first c.in_ok-both.both c.in_ok-first.ensures.rows c.in_ok-both.ensures.rows
    c.in_ok-between.between c.apart-on.result c.in_ok-between.ensures.rows c.apart-on.ensures c.in_ok-back.back back.0
    power.1 c.requires.fits c.union.result c.union.ensures
