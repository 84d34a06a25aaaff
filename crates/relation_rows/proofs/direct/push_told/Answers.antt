use Rattle.relation_rows.proofs.DirectWays.{nothing_added, way_added}
use Rattle.relation_rows.proofs.direct.push_told.Goals as goal

pub returns-in-Nothing : goal.returns-in-Nothing
returns-in-Nothing c = nothing_added c.args.row.now c.args.next.now c.args.ways.now.items c.in-Nothing.ensures

pub returns-in_ok-push-in-Way : goal.returns-in_ok-push-in-Way
returns-in_ok-push-in-Way c =
    let way = c.in-Way.ensures in
    let pushed = c.in_ok-push-in-Way.ensures.items in
    way_added c.args.row.now c.args.next.now c.requires.same c.in-Way.band way.0 way.1 c.args.ways.now.items c.push.new.self.items pushed
