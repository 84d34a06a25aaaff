-- Steps that lead each object to itself one moment later, and where many of them lead.
use Rattle.std.specs.Prelude.{◌≡◌, ℕ, ℤ, pos, ◌+ℤ◌, ◌≤ℤ◌, List}
use Rattle.itpg_base.specs.Lists.{Among}
use Rattle.itpg_base.specs.Points.{Point, Relation}
use Rattle.band_normal.specs.declared.band.Band.{Band}
use Rattle.band_normal.specs.declared.band.End.{End}
use Rattle.band_normal.specs.Bands.{end_at}
use Rattle.relation_rows.specs.declared.rows.Row.{Row}
use Rattle.relation_rows.specs.Rows.{RowsHold}
use Rattle.wide_witness.specs.Steps.{Reaches}

-- the one relation leads from the point to itself, and at most n of the steps lead on to the other
abbrev pub IsAlong : List Row → List Row → ℕ → Relation
IsAlong one steps n x y = RowsHold one x x × Reaches (RowsHold steps) n x y

-- at each of the band's departures the end stands one moment after it
abbrev pub IsOneOn : End → Band → Type 0
IsOneOn end band = (t : ℤ) → band.from ≤ℤ t → t ≤ℤ band.to → end_at end t ≡ t +ℤ pos 1

-- the row leads an object to itself, one moment later
pub record LeadsOneOn (r : Row) : Type 0 where
  pub stays : r.source.0 ≡ r.target.0
  pub low : IsOneOn r.band.low r.band
  pub high : IsOneOn r.band.high r.band

-- each row does
abbrev pub LeadOneOn : List Row → Type 0
LeadOneOn rows = (r : Row) → Among rows r → LeadsOneOn r

-- from the one moment steps of the band lead to the other, at most n of them
pub record AlongBand (band : Band) (n : ℕ) (t u : ℤ) : Type 0 where
  pub from : band.from ≤ℤ t
  pub order : t ≤ℤ u
  pub to : u ≤ℤ (band.to +ℤ pos 1)
  pub near : u ≤ℤ (t +ℤ pos n)

-- and so from the one point to the other, both of the row's object
pub record AlongRow (r : Row) (n : ℕ) (x y : Point) : Type 0 where
  pub source : r.source.0 ≡ x.object
  pub target : r.source.0 ≡ y.object
  pub pair : AlongBand r.band n x.moment y.moment

-- some row does
abbrev pub AlongRows : List Row → ℕ → Relation
AlongRows rows n x y = (r : Row) × Among rows r × AlongRow r n x y
