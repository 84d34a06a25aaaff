use Rattle.relation_rows.proofs.Going.{pushed_there}
use Rattle.relation_rows.proofs.ways.push_there.Goals as goal

pub returns-in_ok-push : goal.returns-in_ok-push
returns-in_ok-push c =
    let pushed = c.in_ok-push.ensures.items in
    pushed_there c.args.source c.args.target _ _ c.in-Some.zone c.args.zone c.in-Some.is pushed
