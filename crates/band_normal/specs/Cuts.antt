-- What zones have up to a departure, and after it.
use Rattle.std.specs.Prelude.{ℤ, ◌↔◌, ◌≤ℤ◌, ◌<ℤ◌, List}
use Rattle.zone_core.specs.declared.Bounds.{Bounds}
use Rattle.band_normal.specs.Zones.{SomeMeets}

abbrev pub MeetsUpTo : List Bounds → ℤ → ℤ → ℤ → Type 0
MeetsUpTo zones last t u = SomeMeets zones t u × (t ≤ℤ last)

abbrev pub MeetsAfter : List Bounds → ℤ → ℤ → ℤ → Type 0
MeetsAfter zones last t u = SomeMeets zones t u × (last <ℤ t)

-- two lists of zones hold what the zones do up to some departure, and after it
pub record AreCut (zones front back : List Bounds) : Type 0 where
  pub limit : ℤ
  pub up_to : (t u : ℤ) → SomeMeets front t u ↔ MeetsUpTo zones limit t u
  pub after : (t u : ℤ) → SomeMeets back t u ↔ MeetsAfter zones limit t u
