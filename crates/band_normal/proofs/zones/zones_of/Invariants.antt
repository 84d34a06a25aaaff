use Rattle.std.proofs.Common.{ℤ, ◌↔◌, take}
use Rattle.band_normal.specs.Zones.{SomeMeets}
use Rattle.band_normal.specs.Strips.{Holds}
use Rattle.band_normal.proofs.zones.zones_of.Given as goal

abbrev pub invariant-loop-row : goal.invariant-loop-row
invariant-loop-row l = (t : ℤ) → (u : ℤ) → SomeMeets l.zones.items t u ↔ Holds (take l.row-index l.rows) t u
