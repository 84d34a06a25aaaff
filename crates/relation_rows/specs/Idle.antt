-- Rows that lead each of their points to itself, and rows that such rows leave as they are.
use Rattle.std.specs.Prelude.{◌≡◌, ◌↔◌, ℤ, List}
use Rattle.itpg_base.specs.Lists.{Among}
use Rattle.itpg_base.specs.Points.{Point}
use Rattle.zone_core.specs.Zone.{Between}
use Rattle.band_normal.specs.Bands.{InBand}
use Rattle.relation_rows.specs.declared.rows.Row.{Row}
use Rattle.relation_rows.specs.Rows.{RowsHold, IsRelation}
use Rattle.relation_rows.specs.Relations.{HasMiddlePoint}
use Rattle.relation_rows.specs.Direct.{Rests}

-- the row leads from an object to itself, and arrives when it departs
abbrev pub IsIdle : Row → Type 0
IsIdle r = (r.source.0 ≡ r.target.0) × Rests r.band

-- all rows do
abbrev pub AreIdle : List Row → Type 0
AreIdle rows = (r : Row) → Among rows r → IsIdle r

-- the first row departs from where the second arrives, whenever that does
abbrev pub TakesOn : Row → Row → Type 0
TakesOn next row = (next.source.0 ≡ row.target.0) × ((t : ℤ) → (u : ℤ) → InBand row.band t u → Between next.band.from next.band.to u)

-- the first row departs from where the second does, whenever that does
abbrev pub DepartsWith : Row → Row → Type 0
DepartsWith row next = (row.source.0 ≡ next.source.0) × ((t : ℤ) → Between next.band.from next.band.to t → Between row.band.from row.band.to t)

-- for each row of the list, some row of the other is such a one
abbrev pub EachHas : (Row → Row → Type 0) → List Row → List Row → Type 0
EachHas Fits rows others = (r : Row) → Among rows r → (s : Row) × Among others s × Fits s r

-- the rows hold exactly the ways by the first list and then the second
abbrev pub HoldWays : List Row → List Row → List Row → Type 0
HoldWays rows first second = (x y : Point) → RowsHold rows x y ↔ HasMiddlePoint first second x y

-- the rows are the relation of these ways
pub record IsWholeSide (first second rows : List Row) : Type 0 where
  pub relation : IsRelation rows
  pub ways : HoldWays rows first second
