use Rattle.std.proofs.Common.{Some}
use Rattle.std.proofs.lemmas.Result.{err_from_is_err_and}
use Rattle.path_ast.specs.Terms.{Repetition}
use Rattle.label_scope.specs.Narrowing.{Cut}
use Rattle.path_eval.specs.Ready.{body_of}
use Rattle.path_eval.proofs.Ending.{zeroth_between, exactly_between, power_fault, held_fits}
use Rattle.path_eval.proofs.powers.Powers.exactly_between.Goals as goal

pub returns-then-n-eq0 : goal.returns-then-n-eq0
returns-then-n-eq0 c =
    let s = c.args.self.now in
    zeroth_between s.ground.now.graph.now (body_of s) s.passed.now s.ground.now.max_rows s.relation.now c.requires.ready c.args.a.now c.args.b.now c.requires.passed
    c.args.n c.if-n-eq0.true c.identity_within_both.result c.identity_within_both.ensures

pub returns-in_err-power : goal.returns-in_err-power
returns-in_err-power c =
    let s = c.args.self.now in
    let p = err_from_is_err_and c.from_residual.result c.from_residual.ensures.1 in
    rw (p.1, p.2)
    (power_fault s.ground.now.graph.now (body_of s) s.passed.now s.ground.now.max_rows s.relation.now c.requires.ready c.args.a.now c.args.b.now c.requires.passed
    c.args.n (Some c.args.n) _ c.in_err-power.ensures)

pub returns : goal.returns
returns c =
    let s = c.args.self.now in
    let holds = c.in_ok-power.ensures.0 in
    exactly_between s.ground.now.graph.now (body_of s) s.passed.now s.ground.now.max_rows s.relation.now c.requires.ready c.args.a.now c.args.b.now c.requires.passed
    c.args.n c.in_ok-power.power c.in_ok-rows.rows c.in_ok-power.ensures c.in_ok-rows.ensures.rows
    (c.in_ok-rows.ensures.few s.ground.now.max_rows (held_fits (Cut s.ground.now.graph.now (Repetition (body_of s) c.args.n (Some c.args.n)) s.passed.now s.passed.now) s.ground.now.max_rows c.in_ok-power.power holds))
