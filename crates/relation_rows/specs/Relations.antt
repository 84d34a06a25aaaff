-- The relations that the calls work out.
use Rattle.std.specs.Prelude.{◌≡◌, ◌⊎◌, ℕ, ◌<◌, List}
use Rattle.itpg_base.specs.declared.object_number.ObjNo.{ObjNo}
use Rattle.itpg_base.specs.Spans.{Span, Within}
use Rattle.itpg_base.specs.Points.{Point, Relation}
use Rattle.zone_core.specs.declared.Bounds.{Bounds}
use Rattle.zone_core.specs.Zone.{Meets}
use Rattle.itpg_base.specs.Lists.{Among, Ordered}
use Rattle.relation_rows.specs.declared.rows.Row.{Row}
use Rattle.relation_rows.specs.Rows.{RowsHold}

-- a zone of moments from a source to a target
abbrev pub Item : Type 0
Item = ObjNo × ObjNo × Bounds

-- the zone has the pair, from its source to its target
pub record InItem (i : Item) (x y : Point) : Type 0 where
  pub source : i.0.0 ≡ x.object
  pub target : i.1.0 ≡ y.object
  pub pair : Meets i.2 x.moment y.moment

-- some zone of the list has the pair
abbrev pub ItemsHold : List Item → Relation
ItemsHold items x y = (i : Item) × Among items i × InItem i x y

-- the numbers rise
abbrev pub Rise : List ObjNo → Type 0
Rise objects = Ordered (λ (o p : ObjNo). o.0 < p.0) objects

-- the object is one of the list
abbrev pub IsOneOf : List ObjNo → ℕ → Type 0
IsOneOf objects o = (p : ObjNo) × Among objects p × (p.0 ≡ o)

-- each point of the objects over the horizon leads to itself
pub record IsItself (objects : List ObjNo) (horizon : Span) (x y : Point) : Type 0 where
  pub same : x ≡ y
  pub object : IsOneOf objects x.object
  pub moment : Within x.moment horizon

-- the one list holds the pair or the other
abbrev pub EitherHolds : List Row → List Row → Relation
EitherHolds first second x y = RowsHold first x y ⊎ RowsHold second x y

-- there is a middle point, to which the first list leads and from which the second does
abbrev pub HasMiddlePoint : List Row → List Row → Relation
HasMiddlePoint first second x y = (m : Point) × RowsHold first x m × RowsHold second m y

-- the list holds the pair, or there is a middle point, to which the first leads and from which the second does
abbrev pub HoldsOrLeads : List Row → List Row → List Row → Relation
HoldsOrLeads all first second x y = RowsHold all x y ⊎ HasMiddlePoint first second x y

-- the list holds the pair, and it leads from one of the sources to one of the targets
pub record IsBetween (rows : List Row) (sources targets : List ObjNo) (x y : Point) : Type 0 where
  pub held : RowsHold rows x y
  pub source : IsOneOf sources x.object
  pub target : IsOneOf targets y.object

-- the first list holds the pair, and the second doesn't
abbrev pub OnlyFirstHolds : List Row → List Row → Relation
OnlyFirstHolds first second x y = RowsHold first x y × (¬ RowsHold second x y)
