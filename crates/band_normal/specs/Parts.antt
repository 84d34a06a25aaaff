-- Zones that lie apart, and the rows of all their pairs.
use Rattle.std.specs.Prelude.{◌≡◌, ◌⊎◌, ℤ, pos, ◌+ℤ◌, ◌≤ℤ◌, ◌<ℤ◌, List, ◌++◌}
use Rattle.zone_core.specs.declared.Bounds.{Bounds}
use Rattle.band_normal.specs.declared.band.Band.{Band}
use Rattle.band_normal.specs.declared.parts.Measure.{Measure}
use Rattle.band_normal.specs.declared.parts.Measure.TheVariants.{Departure, Arrival, Difference}
use Rattle.itpg_base.specs.Lists.{Among}
use Rattle.band_normal.specs.Bands.{IsWellFormed}
use Rattle.band_normal.specs.Zones.{SomeMeets}
use Rattle.band_normal.specs.Rows.{AreAll}

-- the least departure, arrival or difference of the zone
abbrev pub begin_of : Measure → Bounds → ℤ
begin_of Departure k = k.a
begin_of Arrival k = k.c
begin_of Difference k = k.e

-- the greatest one
abbrev pub end_of : Measure → Bounds → ℤ
end_of Departure k = k.b
end_of Arrival k = k.d
end_of Difference k = k.f

-- by the least one
abbrev pub BeginsNoLater : Measure → Bounds → Bounds → Type 0
BeginsNoLater m x y = begin_of m x ≤ℤ begin_of m y

-- some number lies between what the one zone has and what the other has
abbrev pub IsBelow : Measure → Bounds → Bounds → Type 0
IsBelow m x y = (end_of m x +ℤ pos 1) <ℤ begin_of m y

-- no arrival of the one relation is at or beside one of the other's, nor can a run of the one continue one of the other
pub record AreFar (R S : ℤ → ℤ → Type 0) : Type 0 where
  pub beside : (t u v : ℤ) → R t u → S t v → ((u +ℤ pos 1) <ℤ v) ⊎ ((v +ℤ pos 1) <ℤ u)
  pub before : (t u v : ℤ) → R t u → S (t +ℤ pos 1) v → (v <ℤ u) ⊎ ((u +ℤ pos 1) <ℤ v)
  pub after : (t u v : ℤ) → S t u → R (t +ℤ pos 1) v → (v <ℤ u) ⊎ ((u +ℤ pos 1) <ℤ v)

-- the rows are all rows of what the zones hold
pub record AreRowsOf (zones : List Bounds) (rows : List Band) : Type 0 where
  pub all : AreAll (SomeMeets zones) rows
  pub well_formed : (b : Band) → Among rows b → IsWellFormed b

-- all rows of what the zones hold were added
pub record AddsRows (old : List Band) (zones : List Bounds) (new : List Band) : Type 0 where
  pub more : List Band
  pub is : new ≡ old ++ more
  pub rows : AreRowsOf zones more
