use Rattle.std.proofs.Common.{ℤ, ◌↔◌, ◌⊎◌, take}
use Rattle.band_normal.specs.Zones.{SomeMeets}
use Rattle.band_normal.proofs.lasting.told_apart.Given as goal

abbrev pub invariant-loop-zone : goal.invariant-loop-zone
invariant-loop-zone l = (t : ℤ) → (u : ℤ) → (SomeMeets l.lasting.items t u ⊎ SomeMeets l.others.items t u) ↔ SomeMeets (take l.zone-index l.zones) t u
