use Rattle.repeat_engine.specs.Relations.{Given, Composition}
use Rattle.path_eval.proofs.Composing.{value_of, exact_of}
use Rattle.path_eval.proofs.powers.PowersComposed.compose.Goals as goal

pub returns-clause-value : goal.returns-clause-value
returns-clause-value c =
    let s = c.args.self.now in
    value_of s.ground.now.graph.now s.passed.now (Composition (Given c.args.x.now) (Given c.args.y.now)) s.ground.now.max_rows c.compose.result c.compose.ensures

pub returns-clause-exact : goal.returns-clause-exact
returns-clause-exact c =
    let s = c.args.self.now in
    exact_of s.ground.now.graph.now s.passed.now (Composition (Given c.args.x.now) (Given c.args.y.now)) s.ground.now.max_rows c.compose.result c.compose.ensures
