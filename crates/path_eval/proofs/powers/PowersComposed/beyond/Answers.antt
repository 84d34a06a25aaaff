use Rattle.path_eval.proofs.Beyond.{rest_alike, rest_inside}
use Rattle.path_eval.proofs.powers.PowersComposed.beyond.Goals as goal

pub returns-then-count-self-clause-value : goal.returns-then-count-self-clause-value
returns-then-count-self-clause-value c =
    let s = c.args.self.now in
    rest_alike s.ground.now.graph.now s.passed.now c.args.x.now c.args.y.now c.in_ok-rest.rest c.in_ok-rest.ensures

pub returns-then-count-self-clause-own : goal.returns-then-count-self-clause-own
returns-then-count-self-clause-own c =
    let s = c.args.self.now in
    rest_inside s.ground.now.graph.now s.passed.now c.args.x.now c.args.y.now c.in_ok-rest.rest c.in_ok-rest.ensures c.requires.own_x
