use Rattle.repeat_engine.specs.Relations.{Identity}
use Rattle.path_eval.proofs.Composing.{value_of, exact_of}
use Rattle.path_eval.proofs.powers.PowersComposed.one.Goals as goal

pub returns-clause-value : goal.returns-clause-value
returns-clause-value c =
    let s = c.args.self.now in
    value_of s.ground.now.graph.now s.passed.now Identity s.ground.now.max_rows c.identity_within.result c.identity_within.ensures

pub returns-clause-exact : goal.returns-clause-exact
returns-clause-exact c =
    let s = c.args.self.now in
    exact_of s.ground.now.graph.now s.passed.now Identity s.ground.now.max_rows c.identity_within.result c.identity_within.ensures
