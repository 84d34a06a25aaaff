use Rattle.std.proofs.Common.{Ok, Err}
use Rattle.path_eval.proofs.Composing.{Onto, onto_gives, value_of, exact_of}
use Rattle.path_eval.proofs.powers.PowersComposed.compose_onto.Goals as goal

pub returns-in-Ok-union-clause-value : goal.returns-in-Ok-union-clause-value
returns-in-Ok-union-clause-value c =
    let s = c.args.self.now in
    let g = s.ground.now.graph.now in
    let made = c.in-Ok.made in
    let is_made = c.in-Ok.ensures.0 in
    value_of g s.passed.now (Onto g s.passed.now c.args.base.now c.args.x.now c.args.y.now made is_made) s.ground.now.max_rows (Ok c.in-Ok-union.all)
    (onto_gives g s.passed.now c.args.base.now c.args.x.now c.args.y.now made is_made s.ground.now.max_rows (Ok c.in-Ok-union.all) c.in-Ok-union.ensures)

pub returns-in-Ok-union-clause-exact : goal.returns-in-Ok-union-clause-exact
returns-in-Ok-union-clause-exact c =
    let s = c.args.self.now in
    let g = s.ground.now.graph.now in
    let made = c.in-Ok.made in
    let is_made = c.in-Ok.ensures.0 in
    exact_of g s.passed.now (Onto g s.passed.now c.args.base.now c.args.x.now c.args.y.now made is_made) s.ground.now.max_rows (Ok c.in-Ok-union.all)
    (onto_gives g s.passed.now c.args.base.now c.args.x.now c.args.y.now made is_made s.ground.now.max_rows (Ok c.in-Ok-union.all) c.in-Ok-union.ensures)

pub returns-clause-exact : goal.returns-clause-exact
returns-clause-exact c =
    let s = c.args.self.now in
    let g = s.ground.now.graph.now in
    let made = c.in-Ok.made in
    let is_made = c.in-Ok.ensures.0 in
    exact_of g s.passed.now (Onto g s.passed.now c.args.base.now c.args.x.now c.args.y.now made is_made) s.ground.now.max_rows (Err c.in-Err.fault)
    (onto_gives g s.passed.now c.args.base.now c.args.x.now c.args.y.now made is_made s.ground.now.max_rows (Err c.in-Err.fault) c.in-Err.ensures)
