use Rattle.std.proofs.lemmas.Result.{err_from_is_err_and}
use Rattle.path_ast.specs.Terms.{Repetition}
use Rattle.label_scope.specs.Narrowing.{Cut}
use Rattle.path_eval.specs.Powers.{left_over}
use Rattle.path_eval.specs.Ready.{body_of}
use Rattle.path_eval.proofs.Ending.{rest_between, composed_between, power_fault, held_fits, least_of}
use Rattle.path_eval.proofs.powers.Powers.with_rest.Goals as goal

pub returns-then-least-eq0 : goal.returns-then-least-eq0
returns-then-least-eq0 c =
    let s = c.args.self.now in
    let r = body_of s in
    rest_between s.ground.now.graph.now r s.passed.now s.ground.now.max_rows s.relation.now c.requires.ready c.args.a.now c.args.b.now c.requires.passed
    c.args.least c.args.most c.if-least-eq0.true c.args.rest.now c.in_ok-rows.rows c.requires.rest c.requires.fits c.in_ok-rows.ensures.rows
    (c.in_ok-rows.ensures.few s.ground.now.max_rows (held_fits (Cut s.ground.now.graph.now (Repetition r 0 (left_over c.args.least c.args.most)) s.passed.now s.passed.now) s.ground.now.max_rows c.args.rest.now c.requires.rest))

pub returns-in_err-power : goal.returns-in_err-power
returns-in_err-power c =
    let s = c.args.self.now in
    let p = err_from_is_err_and c.from_residual-in_err-power.result c.from_residual-in_err-power.ensures.1 in
    rw (p.1, p.2)
    (power_fault s.ground.now.graph.now (body_of s) s.passed.now s.ground.now.max_rows s.relation.now c.requires.ready c.args.a.now c.args.b.now c.requires.passed
    c.args.least c.args.most _ c.in_err-power.ensures)

pub returns : goal.returns
returns c =
    let s = c.args.self.now in
    let power = c.in_ok-power.ensures in
    composed_between s.ground.now.graph.now (body_of s) s.passed.now s.ground.now.max_rows s.relation.now c.requires.ready c.args.a.now c.args.b.now c.requires.passed
    c.args.least c.args.most (least_of c.args.least c.args.most c.requires.in_range) c.in_ok-power.power c.args.rest.now power.0 c.requires.rest
    c.in_ok-first.first c.in_ok-second.second c.in_ok-first.ensures.rows c.in_ok-second.ensures.rows power.1 c.requires.fits c.compose.result c.compose.ensures
