use Rattle.relation_rows.proofs.Leaving.{whole_without, split_without}
use Rattle.relation_rows.proofs.minus.push_without.Goals as goal

pub returns-in-None : goal.returns-in-None
returns-in-None c =
    let pushed = c.in_ok-push.ensures.items in
    whole_without c.args.left.now.items c.push.new.self.items c.args.zone.now c.args.cut.now c.meet.result c.meet.ensures c.in-None.is pushed

pub returns : goal.returns
returns c = split_without c.args.left.now.items c.push_places.new.zones.items c.args.zone.now c.args.cut.now c.minus.result c.minus.ensures.pairs c.in_ok-push_places.ensures
