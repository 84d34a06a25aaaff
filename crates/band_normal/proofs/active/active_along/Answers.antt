use Rattle.itpg_base.proofs.Lists.{among_at}
use Rattle.band_normal.proofs.Stretches.{front_front}
use Rattle.band_normal.proofs.Activity.{active_at, active_step}
use Rattle.band_normal.proofs.active.active_along.Goals as goal

pub add_reach-requires-clause-well_formed : goal.add_reach-requires-clause-well_formed
add_reach-requires-clause-well_formed c = c.requires.well_formed _ (among_at _ _ _ c.loop-band-test.true)

pub add_reach-requires-clause-active : goal.add_reach-requires-clause-active
add_reach-requires-clause-active c = active_at _ _ _ _ _ c.loop-band.invariant.front c.requires.active c.loop-band-test.true

pub loop-band-preserved : goal.loop-band-preserved
loop-band-preserved c = record {
  front = front_front _ _ _ c.loop-band.invariant.front c.in_ok-kept.ensures.front;
  active = active_step _ _ _ _ _ _ _ c.loop-band-test.true (active_at _ _ _ _ _ c.loop-band.invariant.front c.requires.active c.loop-band-test.true) c.loop-band.invariant.active c.in_ok-kept.ensures;
}
