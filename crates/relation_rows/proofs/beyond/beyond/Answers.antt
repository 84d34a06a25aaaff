use Rattle.relation_rows.proofs.Joining.{all_ways, known_way, new_way}
use Rattle.relation_rows.proofs.beyond.beyond.Goals as goal

pub loop-way-preserved-then-is_known : goal.loop-way-preserved-then-is_known
loop-way-preserved-then-is_known c =
    known_way c.args.ways.now c.args.rows.now c.loop-way.way-index _ c.loop-way-test.true c.way-item.result c.way-item.is c.loop-way.left.items
    (c.is_known.ensures c.if-is_known.true) c.loop-way.invariant

pub loop-way-preserved : goal.loop-way-preserved
loop-way-preserved c =
    new_way c.args.ways.now c.args.rows.now c.loop-way.way-index _ c.loop-way-test.true c.way-item.result c.way-item.is c.loop-way.left.items
    c.push.new.self.items c.in_ok-push.ensures.items c.loop-way.invariant

pub returns-clause-there : goal.returns-clause-there
returns-clause-there c = (all_ways c.args.ways.now c.args.rows.now c.loop-way.way-index c.loop-way.left.items c.loop-way-test.false c.loop-way.invariant).there

pub returns-clause-each : goal.returns-clause-each
returns-clause-each c = (all_ways c.args.ways.now c.args.rows.now c.loop-way.way-index c.loop-way.left.items c.loop-way-test.false c.loop-way.invariant).each
