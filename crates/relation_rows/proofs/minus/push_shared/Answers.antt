use Rattle.relation_rows.proofs.Leaving.{shared_pushed}
use Rattle.relation_rows.proofs.minus.push_shared.Goals as goal

pub returns-in_ok-push : goal.returns-in_ok-push
returns-in_ok-push c =
    let pushed = c.in_ok-push.ensures.items in
    shared_pushed c.args.shared.now.items c.push.new.self.items c.args.zone.now c.args.part.now c.in-Some.both c.meet.result c.meet.ensures c.in-Some.is pushed
