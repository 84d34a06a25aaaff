use Rattle.band_normal.proofs.LinkLemmas.{rows_more}
use Rattle.band_normal.proofs.links.rows_linked.Goals as goal

pub loop-row-preserved : goal.loop-row-preserved
loop-row-preserved c = rows_more _ _ _ _ _ _ c.loop-row-test.true c.loop-row.invariant c.in_ok-push_some.ensures
