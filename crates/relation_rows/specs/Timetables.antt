-- Rows in order of source and departure, and legs.
use Rattle.std.specs.Prelude.{◌≡◌, ◌⊎◌, ◌↔◌, ◌==◌, ◌&&◌, ◌||◌, nat_lt, int_le, int_lt, Bool, ℕ, ◌<◌, ◌/◌, zero, suc, ℤ, ◌≤ℤ◌, List, ◌∷◌, ◌++◌, length, map}
use Rattle.itpg_base.specs.Points.{Relation}
use Rattle.itpg_base.specs.Lists.{Among, Ordered}
use Rattle.band_normal.specs.Bands.{IsWellFormed}
use Rattle.relation_rows.specs.declared.rows.Row.{Row}
use Rattle.relation_rows.specs.declared.timetable.Farthest.{Farthest}
use Rattle.relation_rows.specs.declared.timetable.Leg.{Leg}
use Rattle.relation_rows.specs.Rows.{InRow}

-- by source and first departure, the first row doesn't come after the second
abbrev pub DepartsUpTo : Row → Row → Type 0
DepartsUpTo r s = (r.source.0 < s.source.0) ⊎ ((r.source.0 ≡ s.source.0) × (r.band.from ≤ℤ s.band.from))

-- the same of legs
abbrev pub LegUpTo : Leg → Leg → Type 0
LegUpTo s t = DepartsUpTo s.row t.row

-- by source and last departure, the row goes no farther than the reach
abbrev pub Reaches : Farthest → Row → Type 0
Reaches reach r = (r.source.0 < reach.source.0) ⊎ ((r.source.0 ≡ reach.source.0) × (r.band.to ≤ℤ reach.to))

-- the reach of the middle leg is that of all; and so it is in either half, down to this depth of halving
abbrev pub AreReached : ℕ → List Leg → Type 0
AreReached zero legs = Unit {0}
AreReached (suc depth) legs = (before behind : List Leg) (middle : Leg) → legs ≡ before ++ middle ∷ behind → length before ≡ length legs / 2
    → ((s : Leg) → Among legs s → Reaches middle.reach s.row) × AreReached depth before × AreReached depth behind

-- the rows have legs, which are added
abbrev pub HasLegs : List Row → List Leg → List Leg → Type 0
HasLegs rows old new = (legs : List Leg) × (new ≡ old ++ legs) × (map (λ (s : Leg). s.row) legs ≡ rows) × ((depth : ℕ) → AreReached depth legs)

-- some leg's row has the pair
abbrev pub LegsHold : List Leg → Relation
LegsHold legs x y = (s : Leg) × Among legs s × InRow s.row x y

-- legs in order, with their reach
pub record IsTimetable (legs : List Leg) : Type 0 where
  pub order : Ordered LegUpTo legs
  pub reach : (depth : ℕ) → AreReached depth legs
  pub formed : (s : Leg) → Among legs s → IsWellFormed s.row.band

-- the leg's row leads from object o, at a moment of the span from the first to the last
pub record DepartsWithin (s : Leg) (o : ℕ) (first last : ℤ) : Type 0 where
  pub source : s.row.source.0 ≡ o
  pub begins : s.row.band.from ≤ℤ last
  pub ends : first ≤ℤ s.row.band.to

-- the legs that do are added
abbrev pub HasFound : List Leg → ℕ → ℤ → ℤ → List Leg → List Leg → Type 0
HasFound legs o first last old new = (s : Leg) → Among new s ↔ (Among old s ⊎ (Among legs s × DepartsWithin s o first last))

-- the same as a test
abbrev pub departs_within : Leg → ℕ → ℤ → ℤ → Bool
departs_within s o first last = (s.row.source.0 == o) && (int_le s.row.band.from last && int_le first s.row.band.to)

-- the leg is of an object before o, or of o and begins by t
abbrev pub departs_by : Leg → ℕ → ℤ → Bool
departs_by s o t = nat_lt s.row.source.0 o || ((s.row.source.0 == o) && int_le s.row.band.from t)

-- the reach is of an object before o, or of o and before t
abbrev pub is_short_of : Farthest → ℕ → ℤ → Bool
is_short_of reach o t = nat_lt reach.source.0 o || ((reach.source.0 == o) && int_lt reach.to t)
