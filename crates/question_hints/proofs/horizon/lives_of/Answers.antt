use Rattle.std.proofs.Common.{◌+◌, ◌≤◌, length, sym, subst, arith}
use Rattle.question_hints.specs.Horizons.{AreLivesOf}
use Rattle.question_hints.proofs.LivesLemmas.{ExistsBelow, one_more, all_below}
use Rattle.question_hints.proofs.horizon.lives_of.Goals as goal

pub loop-number-preserved : goal.loop-number-preserved
loop-number-preserved c =
    subst (AreLivesOf (ExistsBelow c.args.graph.now (c.loop-number.number + 1))) (sym c.joined-lives.ensures)
    (one_more c.args.graph.now c.loop-number.number c.loop-number.lives c.life_of.result c.loop-number.invariant c.life_of.ensures)

pub returns : goal.returns
returns c =
    let all : length c.args.graph.now.objects ≤ c.loop-number.number = omega arith in
    all_below c.args.graph.now c.loop-number.number c.loop-number.lives all c.loop-number.invariant
