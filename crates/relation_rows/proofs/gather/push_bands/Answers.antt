use Rattle.relation_rows.proofs.Pushing.{one_band}
use Rattle.relation_rows.proofs.gather.push_bands.Goals as goal

pub loop-band-preserved : goal.loop-band-preserved
loop-band-preserved c =
    let pushed = c.in_ok-push.ensures.items in
    one_band _ _ _ _ _ c.args.bands.now _ _ c.loop-band-test.true c.loop-band.invariant pushed
