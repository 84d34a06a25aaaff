use Rattle.std.proofs.Common.{◌≤ℤ◌, take}
use Rattle.zone_core.specs.Zone.{Within, moment_reach}
use Rattle.itpg_base.specs.Lists.{Among}
use Rattle.band_normal.specs.declared.band.Band.{Band}
use Rattle.band_normal.proofs.sweep.last_departure.Given as goal

abbrev pub invariant-loop-band : goal.invariant-loop-band
invariant-loop-band l = record {
  near : Within moment_reach l.last;
  other : l.fn.other ≤ℤ l.last;
  all : (b : Band) → Among (take l.band-index l.bands) b → b.to ≤ℤ l.last;
}
