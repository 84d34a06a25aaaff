use Rattle.relation_rows.specs.Answered.{answered}
use Rattle.itpg_session.specs.Ticks.{ticked_of}
use Rattle.itpg_session.proofs.Found.{unmoved_ticked}
use Rattle.itpg_session.proofs.Written.{if_ok}
use Rattle.itpg_session.proofs.ticking.tick_one.Goals as goal

pub returns-in-Some-clause-found : goal.returns-in-Some-clause-found
returns-in-Some-clause-found c =
    if_ok (λ found is. unmoved_ticked c.args.graph.now c.args.max_rows c.args.plans.now.nodes c.args.watches.now c.requires.right.watches_right c.args.place c.name-name.result
    (answered c.in-Some.answer.now) c.name-name.ensures c.in-Some.ensures (ticked_of found) is) c.unmoved.result c.unmoved.ensures
