use Rattle.std.proofs.Common.{ℤ, ◌↔◌, take}
use Rattle.band_normal.specs.Zones.{SomeMeets}
use Rattle.band_normal.specs.Cuts.{MeetsUpTo, MeetsAfter}
use Rattle.band_normal.proofs.cuts.parts_at.Given as goal

abbrev pub invariant-loop-zone : goal.invariant-loop-zone
invariant-loop-zone l = record {
  front : (t : ℤ) → (u : ℤ) → SomeMeets l.front.items t u ↔ MeetsUpTo (take l.zone-index l.zones) l.limit.last t u;
  back : (t : ℤ) → (u : ℤ) → SomeMeets l.back.items t u ↔ MeetsAfter (take l.zone-index l.zones) l.limit.last t u;
}
