-- Rows whose bands stand alone, and rows between which a departure is free, or an arrival at each departure of both.
use Rattle.std.specs.Prelude.{◌≡◌, ◌⊎◌, ℤ, pos, ◌+ℤ◌, ◌≤ℤ◌, ◌<ℤ◌, List}
use Rattle.itpg_base.specs.Lists.{Among}
use Rattle.band_normal.specs.declared.band.Band.{Band}
use Rattle.band_normal.specs.Bands.{end_at, IsFixed, IsWellFormed}
use Rattle.band_normal.specs.Normal.{Steps}
use Rattle.relation_rows.specs.declared.rows.Row.{Row}
use Rattle.relation_rows.specs.Rows.{KeyBefore, HasKey}
use Rattle.relation_rows.specs.Ways.{DepartApart}

-- the band is a row of its own pairs: its ends are fixed where it has one departure
pub record IsLone (b : Band) : Type 0 where
  pub formed : IsWellFormed b
  pub single_low : b.from ≡ b.to → IsFixed b.low
  pub single_high : b.from ≡ b.to → IsFixed b.high

-- the bands of all rows are so
abbrev pub AreLone : List Row → Type 0
AreLone rows = (r : Row) → Among rows r → IsLone r.band

-- both bands have the same departures, and at each a moment is free between the arrivals of the first and those of the second
pub record ArriveApart (b c : Band) : Type 0 where
  pub from : b.from ≡ c.from
  pub to : b.to ≡ c.to
  pub free : (t : ℤ) → b.from ≤ℤ t → t ≤ℤ b.to → (end_at b.high t +ℤ pos 1) <ℤ end_at c.low t

-- the second row comes later by source and target; or it has the same, and a moment is free between the departures of the two
abbrev pub PartBefore : Row → Row → Type 0
PartBefore r s = KeyBefore r.source.0 r.target.0 s.source.0 s.target.0 ⊎ (HasKey s r.source.0 r.target.0 × DepartApart r s)

-- the same; or both have one source and target and the same departures, and arrive apart
abbrev pub ComesApart : Row → Row → Type 0
ComesApart r s = PartBefore r s ⊎ (HasKey s r.source.0 r.target.0 × ArriveApart r.band s.band)

-- the second band's departures begin right behind those of the first, and its first run doesn't continue the last one there
pub record AdjoinsApart (b c : Band) : Type 0 where
  pub next : c.from ≡ b.to +ℤ pos 1
  pub stops : Steps (end_at b.low b.to) (end_at c.low c.from) → Steps (end_at b.high b.to) (end_at c.high c.from) → ⊥

-- the second row comes later by source and target; or it has the same, departs behind the first and doesn't continue it
abbrev pub ComesClear : Row → Row → Type 0
ComesClear r s = PartBefore r s ⊎ (HasKey s r.source.0 r.target.0 × AdjoinsApart r.band s.band)

-- by source, target and first departure, the first row doesn't come after the second
abbrev pub StandsUpTo : Row → Row → Type 0
StandsUpTo r s = KeyBefore r.source.0 r.target.0 s.source.0 s.target.0 ⊎ (HasKey s r.source.0 r.target.0 × (r.band.from ≤ℤ s.band.from))
