-- The bands that are active along a stretch of departures.
use Rattle.std.specs.Prelude.{◌≡◌, ℤ, ◌≤ℤ◌, List, [], ◌∷◌, ◌++◌}
use Rattle.band_normal.specs.declared.band.Band.{Band}
use Rattle.band_normal.specs.declared.strips.Stretch.{Stretch}
use Rattle.band_normal.specs.declared.strips.Ends.{Ends}
use Rattle.band_normal.specs.declared.active.Reach.{Reach}
use Rattle.itpg_base.specs.Lists.{Among}
use Rattle.band_normal.specs.Bands.{end_at}
use Rattle.band_normal.specs.Strips.{AreNear, IsFront}

-- the ends of the reaches
abbrev pub ends_of : List Reach → List Ends
ends_of [] = []
ends_of (r ∷ rs) = r.ends ∷ ends_of rs

-- by the low end where the stretch begins
abbrev pub BeginsLower : Reach → Reach → Type 0
BeginsLower x y = x.low ≤ℤ y.low

-- the reach is that of a band which is active all along the stretch
pub record IsReach (bands : List Band) (s : Stretch) (r : Reach) : Type 0 where
  pub band : Band
  pub there : Among bands band
  pub low : band.low ≡ r.ends.low
  pub high : band.high ≡ r.ends.high
  pub from : band.from ≤ℤ s.from
  pub to : s.to ≤ℤ band.to
  pub begins : r.low ≡ end_at r.ends.low s.from

-- the departure is one of the band's
pub record IsActiveAt (departure : ℤ) (b : Band) : Type 0 where
  pub from : b.from ≤ℤ departure
  pub to : departure ≤ℤ b.to

-- the reaches are those of the bands, all of which are active all along the stretch
pub record AreActive (bands : List Band) (s : Stretch) (reaches : List Reach) : Type 0 where
  pub each : (r : Reach) → Among reaches r → IsReach bands s r
  pub whole : (b : Band) → Among bands b → (r : Reach) × Among reaches r × (b.low ≡ r.ends.low) × (b.high ≡ r.ends.high)

-- one band's reach was added, and the stretch cut to where the band ends
pub record AddsReach (along : Stretch) (old : List Reach) (band : Band) (kept : Stretch) (reaches : List Reach) : Type 0 where
  pub reach : Reach
  pub begins : reach.low ≡ end_at band.low along.from
  pub low : reach.ends.low ≡ band.low
  pub high : reach.ends.high ≡ band.high
  pub front : IsFront along kept
  pub to : kept.to ≤ℤ band.to
  pub is : reaches ≡ old ++ reach ∷ []

-- the ends of the reach are in range where the stretch begins, and in order all along it
pub record IsFit (s : Stretch) (r : Reach) : Type 0 where
  pub begins : r.low ≡ end_at r.ends.low s.from
  pub near : AreNear r.ends s.from
  pub some : (t : ℤ) → s.from ≤ℤ t → t ≤ℤ s.to → end_at r.ends.low t ≤ℤ end_at r.ends.high t
