use Rattle.json_port.proofs.Listings.{one_more_item}
use Rattle.json_port.proofs.labels.names_in.Goals as goal

pub loop-i-preserved : goal.loop-i-preserved
loop-i-preserved c =
    one_more_item c.args.items.now c.loop-i.names c.loop-i.i c.index-items-i.result c.name_or_empty.result c.loop-i-test.true c.requires.few c.index-items-i.is c.name_or_empty.ensures c.loop-i.invariant.0 c.loop-i.invariant.1
