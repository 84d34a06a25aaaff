use Rattle.std.proofs.lemmas.List.{take_all}
use Rattle.band_normal.proofs.Zoning.{more_pairs, more_formed}
use Rattle.band_normal.proofs.sweep.bands_of_all.Goals as goal

pub loop-zone-preserved : goal.loop-zone-preserved
loop-zone-preserved c = record {
  pairs = λ t u. more_pairs _ _ _ _ _ _ _ c.loop-zone-test.true c.zone-item.is c.in_ok-push_bands_of.ensures.is c.in_ok-push_bands_of.ensures.normal t u (c.loop-zone.invariant.pairs t u);
  well_formed = more_formed _ _ _ c.in_ok-push_bands_of.ensures.is c.loop-zone.invariant.well_formed c.in_ok-push_bands_of.ensures.formed;
}

pub returns-clause-pairs : goal.returns-clause-pairs
returns-clause-pairs c = rw (take_all c.loop-zone.zone-index c.args.zones.now c.loop-zone-test.false) at c.loop-zone.invariant.pairs
