-- Ends, and the pairs of moments that a band holds.
use Rattle.std.specs.Prelude.{ℤ, ◌+ℤ◌, ◌≤ℤ◌}
use Rattle.zone_core.specs.Zone.{Within, moment_reach}
use Rattle.band_normal.specs.declared.band.End.{End}
use Rattle.band_normal.specs.declared.band.End.TheVariants.{Fixed, Moving}
use Rattle.band_normal.specs.declared.band.Band.{Band}

-- the moment at which an end stands at the departure t
abbrev pub end_at : End → ℤ → ℤ
end_at (Fixed n) t = n
end_at (Moving k) t = t +ℤ k

-- the end stays where it is
abbrev pub IsFixed : End → Type 0
IsFixed (Fixed n) = Unit {0}
IsFixed (Moving k) = ⊥

-- the band holds the pair: t is one of its departures, and u an arrival from its low end at t to its high end
pub record InBand (b : Band) (t u : ℤ) : Type 0 where
  pub from : b.from ≤ℤ t
  pub to : t ≤ℤ b.to
  pub low : end_at b.low t ≤ℤ u
  pub high : u ≤ℤ end_at b.high t

-- the band has departures, its moments are in range, and at each of its departures its ends are in range and in order
pub record IsWellFormed (b : Band) : Type 0 where
  pub span : b.from ≤ℤ b.to
  pub from : Within moment_reach b.from
  pub to : Within moment_reach b.to
  pub low : (t : ℤ) → b.from ≤ℤ t → t ≤ℤ b.to → Within moment_reach (end_at b.low t)
  pub high : (t : ℤ) → b.from ≤ℤ t → t ≤ℤ b.to → Within moment_reach (end_at b.high t)
  pub some : (t : ℤ) → b.from ≤ℤ t → t ≤ℤ b.to → end_at b.low t ≤ℤ end_at b.high t
