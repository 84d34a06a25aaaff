-- The pieces of a zone between the departures at which its ends turn.
use Rattle.std.specs.Prelude.{◌≡◌, ◌⊎◌, ℤ, ◌-ℤ◌, ◌≤ℤ◌, ◌<ℤ◌}
use Rattle.zone_core.specs.declared.Bounds.{Bounds}
use Rattle.zone_core.specs.Zone.{Meets}
use Rattle.band_normal.specs.declared.band.Band.{Band}
use Rattle.band_normal.specs.Bands.{InBand}
use Rattle.band_normal.specs.Normal.{IsRow}

-- b is the row of the zone that begins at a departure and goes on as long as its ends move alike
pub record IsPiece (k : Bounds) (from : ℤ) (b : Band) : Type 0 where
  pub row : IsRow (Meets k) b
  pub starts : b.from ≡ from
  pub within : b.to ≤ℤ k.b
  pub pairs : (t u : ℤ) → from ≤ℤ t → t ≤ℤ b.to → Meets k t u → InBand b t u
  pub cause : (b.to ≡ k.b) ⊎ ((from <ℤ b.to) × ((b.to ≡ k.c -ℤ k.e) ⊎ (b.to ≡ k.d -ℤ k.f)))
