use Rattle.source_rows.proofs.Gaining.{gains_item}
use Rattle.source_rows.proofs.reach.Found.add_all.Goals as goal

pub loop-object-preserved : goal.loop-object-preserved
loop-object-preserved c =
    gains_item c.args.objects.now c.loop-object.object-index _ c.args.self.now c.loop-object.self c.add.new.self (c.loop-object-test.true) c.loop-object.invariant (c.in_ok-add.ensures)
