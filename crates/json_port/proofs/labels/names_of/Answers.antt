use Rattle.json_port.proofs.Listings.{one_more_name}
use Rattle.json_port.proofs.labels.names_of.Goals as goal

pub loop-i-preserved : goal.loop-i-preserved
loop-i-preserved c =
    one_more_name c.args.words.now c.loop-i.names c.loop-i.i _ c.short_name.result c.short_name.ensures c.requires.short c.loop-i-test.true c.requires.few c.loop-i.invariant.0 c.loop-i.invariant.1
