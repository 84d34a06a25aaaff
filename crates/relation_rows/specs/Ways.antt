-- Ways: a row, and then a leg's row from where it arrives.
use Rattle.std.specs.Prelude.{◌≡◌, ◌↔◌, ℕ, ◌<◌, ℤ, pos, ◌+ℤ◌, ◌≤ℤ◌, ◌<ℤ◌, Option, Some, None, List, length}
use Rattle.itpg_base.specs.declared.object_number.ObjNo.{ObjNo}
use Rattle.itpg_base.specs.Points.{Point, Relation}
use Rattle.zone_core.specs.declared.Bounds.{Bounds}
use Rattle.itpg_base.specs.Lists.{Among, Ordered}
use Rattle.zone_core.specs.Zone.{Meets}
use Rattle.band_normal.specs.declared.band.Band.{Band}
use Rattle.band_normal.specs.declared.band.End.TheVariants.{Moving}
use Rattle.band_normal.specs.Bands.{InBand, IsWellFormed}
use Rattle.relation_rows.specs.declared.rows.Row.{Row}
use Rattle.relation_rows.specs.declared.timetable.Leg.{Leg}
use Rattle.relation_rows.specs.Rows.{InRow, RowsHold, RowBefore, IsRelation}
use Rattle.relation_rows.specs.Relations.{InItem}
use Rattle.relation_rows.specs.Timetables.{LegsHold, IsTimetable}

-- the zone is there, and has the pair, from the source to the target
abbrev pub ItemThere : ObjNo → ObjNo → Option Bounds → Relation
ItemThere source target None x y = ⊥
ItemThere source target (Some zone) x y = InItem (source, target, zone) x y

-- each pair of the band arrives when it departs
abbrev pub IsStill : Band → Type 0
IsStill band = (band.low ≡ Moving (pos 0)) × (band.high ≡ Moving (pos 0))

-- the zone has a pair that arrives where one of the band departs
abbrev pub GoesThrough : Bounds → Band → ℤ → ℤ → Type 0
GoesThrough zone band t u = (s : ℤ) × Meets zone t s × InBand band s u

-- from the source, by the zone and then the row, to where the row leads
pub record GoesBy (origin : ObjNo) (zone : Bounds) (next : Row) (x y : Point) : Type 0 where
  pub source : origin.0 ≡ x.object
  pub target : next.target.0 ≡ y.object
  pub pair : GoesThrough zone next.band x.moment y.moment

-- the row leads to a point from which some row of the list does
abbrev pub GoesOn : Row → List Row → Relation
GoesOn row second x y = (m : Point) × InRow row x m × RowsHold second m y

-- the row leads to a point from which some leg's row does
abbrev pub GoesOnBy : Row → List Leg → Relation
GoesOnBy row legs x y = (m : Point) × InRow row x m × LegsHold legs m y

-- the group is in order, and has the rows from the object and no others
abbrev pub AreFrom : List Row → ℕ → List Row → Type 0
AreFrom rows o group = Ordered RowBefore group × ((r : Row) → Among group r ↔ (Among rows r × (r.source.0 ≡ o)))

-- where there are more than 8 rows from an object, the busy ones have them
abbrev pub HasBusy : List Row → List Row → Type 0
HasBusy rows busy = (o : ℕ) (group : List Row) → AreFrom rows o group → 8 < length group → (r : Row) → Among group r → Among busy r

-- rows in order, and a timetable of those from busy objects, or an empty one
pub record AreComposed (second : List Row) (busy : List Leg) : Type 0 where
  pub order : Ordered RowBefore second
  pub formed : (r : Row) → Among second r → IsWellFormed r.band
  pub table : IsTimetable busy
  pub there : (x y : Point) → LegsHold busy x y → RowsHold second x y
  pub all : (o : ℕ) (group : List Row) → AreFrom second o group → 8 < length group → 0 < length busy → (x y : Point) → RowsHold group x y → LegsHold busy x y

-- a relation with a timetable of its rows from busy objects, or an empty one
pub record AreReady (rows : List Row) (busy : List Leg) : Type 0 where
  pub relation : IsRelation rows
  pub composed : AreComposed rows busy

-- by the first departure
abbrev pub DepartsNoLater : Row → Row → Type 0
DepartsNoLater r s = r.band.from ≤ℤ s.band.from

-- a moment is free between the departures of the first row and those of the second
abbrev pub DepartApart : Row → Row → Type 0
DepartApart r s = (r.band.to +ℤ pos 1) <ℤ s.band.from
