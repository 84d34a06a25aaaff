use Rattle.std.proofs.Common.{take, ℤ}
use Rattle.std.specs.Prelude.{◌↔◌}
use Rattle.band_normal.specs.declared.band.Band.{Band}
use Rattle.itpg_base.specs.Lists.{Among}
use Rattle.band_normal.specs.Bands.{IsWellFormed}
use Rattle.band_normal.specs.Zones.{SomeMeets}
use Rattle.band_normal.specs.Strips.{Holds}
use Rattle.band_normal.proofs.sweep.bands_of_all.Given as goal

abbrev pub invariant-loop-zone : goal.invariant-loop-zone
invariant-loop-zone l = record {
  pairs : (t : ℤ) → (u : ℤ) → Holds l.bands.items t u ↔ SomeMeets (take l.zone-index l.zones) t u;
  well_formed : (b : Band) → Among l.bands.items b → IsWellFormed b;
}
