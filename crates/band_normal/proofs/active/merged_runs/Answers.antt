use Rattle.band_normal.proofs.Activity.{band_near, band_lower, band_merged, band_front}
use Rattle.band_normal.proofs.active.merged_runs.Goals as goal

pub with_band-requires-clause-band_near : goal.with_band-requires-clause-band_near
with_band-requires-clause-band_near c = band_near _ _ _ _ _ _ c.requires.fit c.loop-reach-test.true c.loop-reach.invariant.front c.loop-reach.invariant.merged

pub with_band-requires-clause-lower : goal.with_band-requires-clause-lower
with_band-requires-clause-lower c = band_lower _ _ _ _ _ _ c.requires.fit c.loop-reach-test.true c.loop-reach.invariant.front c.loop-reach.invariant.merged c.requires.order

pub loop-reach-preserved : goal.loop-reach-preserved
loop-reach-preserved c = record {
  front = band_front _ _ _ _ _ _ c.requires.fit c.loop-reach-test.true c.loop-reach.invariant.front c.loop-reach.invariant.merged _ _ c.in_ok-strips.ensures;
  merged = band_merged _ _ _ _ _ _ c.requires.fit c.loop-reach-test.true c.loop-reach.invariant.front c.loop-reach.invariant.merged _ _ c.in_ok-strips.ensures;
}
