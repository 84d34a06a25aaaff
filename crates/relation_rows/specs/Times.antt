-- One-time rows, and the moments at which a relation departs and arrives.
use Rattle.std.specs.Prelude.{◌≡◌, ◌⊎◌, ◌==◌, ◌&&◌, ◌||◌, nat_lt, int_le, int_lt, if◌then◌else◌, Bool, IsTrue, ℕ, ◌<◌, ℤ, pos, ◌+ℤ◌, ◌-ℤ◌, ◌≤ℤ◌, ◌<ℤ◌, List, [], ◌∷◌, ◌++◌}
use Rattle.itpg_base.specs.declared.object_number.ObjNo.{ObjNo}
use Rattle.itpg_base.specs.Spans.{Within, IsSpan}
use Rattle.itpg_base.specs.Points.{Point}
use Rattle.zone_core.specs.Zone.{Between}
use Rattle.band_normal.specs.declared.band.Band.{Band}
use Rattle.itpg_base.specs.Lists.{Among, Ordered}
use Rattle.band_normal.specs.Bands.{InBand}
use Rattle.relation_rows.specs.declared.rows.Row.{Row}
use Rattle.relation_rows.specs.declared.times.OneRow.{OneRow}
use Rattle.relation_rows.specs.Rows.{RowsHold}

-- the row has the object at the moment
pub record InTime (r : OneRow) (o : ℕ) (t : ℤ) : Type 0 where
  pub object : r.object.0 ≡ o
  pub moment : Within t r.span

-- some row of the list has it
abbrev pub TimesHold : List OneRow → ℕ → ℤ → Type 0
TimesHold rows o t = (r : OneRow) × Among rows r × InTime r o t

-- by object; and of one object, at least one moment is missing between them
abbrev pub TimeBefore : OneRow → OneRow → Type 0
TimeBefore r s = (r.object.0 < s.object.0) ⊎ ((r.object.0 ≡ s.object.0) × ((r.span.to +ℤ pos 1) <ℤ s.span.from))

-- the rows are, object by object, the runs of its moments
pub record AreTimes (S : ℕ → ℤ → Type 0) (rows : List OneRow) : Type 0 where
  pub whole : (o : ℕ) (t : ℤ) → S o t → TimesHold rows o t
  pub only : (o : ℕ) (t : ℤ) → TimesHold rows o t → S o t
  pub spans : (r : OneRow) → Among rows r → IsSpan r.span
  pub order : Ordered TimeBefore rows

-- the rows are the runs of the moments that they have: this is what a value of the type `OneTime` is
pub record IsOneTime (rows : List OneRow) : Type 0 where
  pub spans : (r : OneRow) → Among rows r → IsSpan r.span
  pub order : Ordered TimeBefore rows

-- some pair of the rows departs from the object at the moment
abbrev pub Departs : List Row → ℕ → ℤ → Type 0
Departs rows o t = (y : Point) × RowsHold rows (record { object = o; moment = t }) y

-- some pair of the rows arrives at the object at the moment
abbrev pub Arrives : List Row → ℕ → ℤ → Type 0
Arrives rows o t = (x : Point) × RowsHold rows x (record { object = o; moment = t })

-- by object and first moment, the first row doesn't come after the second
abbrev pub TimeUpTo : OneRow → OneRow → Type 0
TimeUpTo r s = (r.object.0 < s.object.0) ⊎ ((r.object.0 ≡ s.object.0) × (r.span.from ≤ℤ s.span.from))

-- the second row is of the same object, and begins by one moment after the first ends
abbrev pub Joins : OneRow → OneRow → Type 0
Joins r s = (s.object.0 ≡ r.object.0) × (s.span.from ≤ℤ (r.span.to +ℤ pos 1))

-- the band departs at the moment, for some arrival
abbrev pub DepartsIn : Band → ℤ → Type 0
DepartsIn b t = (u : ℤ) × InBand b t u

-- the band arrives at the moment, at some departure
abbrev pub ArrivesIn : Band → ℤ → Type 0
ArrivesIn b u = (t : ℤ) × InBand b t u

-- the first rows have the object at the moment, and the second don't
abbrev pub OnlyFirstHas : List OneRow → List OneRow → ℕ → ℤ → Type 0
OnlyFirstHas first second o t = TimesHold first o t × (¬ TimesHold second o t)

-- some row of the list has the moment, for whatever object
abbrev pub SomeHas : List OneRow → ℤ → Type 0
SomeHas rows t = (r : OneRow) × Among rows r × Within t r.span

-- the row is of an object before o, or of o and begins by t
abbrev pub begins_by : OneRow → ℕ → ℤ → Bool
begins_by r o t = nat_lt r.object.0 o || ((r.object.0 == o) && int_le r.span.from t)

-- the row is of an object before o, or of o and ends before t
abbrev pub ends_before : OneRow → ℕ → ℤ → Bool
ends_before r o t = nat_lt r.object.0 o || ((r.object.0 == o) && int_lt r.span.to t)

-- the test is true of objects of numbers below `objects` alone, at moments from `low` to `high`
abbrev pub AreFewTimes : ℕ → ℤ → ℤ → (ℕ → ℤ → Bool) → Type 0
AreFewTimes objects low high test = (o : ℕ) (t : ℤ) → IsTrue (test o t) → (o < objects) × Between low high t

-- the row is of the other's object, and shares a moment with it
pub record MeetsTime (r s : OneRow) : Type 0 where
  pub object : s.object.0 ≡ r.object.0
  pub begins : s.span.from ≤ℤ r.span.to
  pub ends : r.span.from ≤ℤ s.span.to

-- a row of the object from the one moment up to the last before the other, if there is any
abbrev pub gap : ObjNo → ℤ → ℤ → List OneRow
gap object from before = if int_lt from before then record { object = object; span = record { from = from; to = before -ℤ pos 1 } } ∷ [] else []

-- what the row has and no cut has was added, as runs
abbrev pub HasUncut : OneRow → List OneRow → List OneRow → List OneRow → Type 0
HasUncut row cuts old new = (pieces : List OneRow) × (new ≡ old ++ pieces) × AreTimes (λ o t. InTime row o t × (¬ SomeHas cuts t)) pieces

-- the two have one object, and the same moments
pub record HaveSameMoments (r s : OneRow) : Type 0 where
  pub object : r.object.0 ≡ s.object.0
  pub from : r.span.from ≡ s.span.from
  pub to : r.span.to ≡ s.span.to

-- the second row is of a later object, or of the first row's and doesn't end before that one begins
abbrev pub Reaches : OneRow → OneRow → Type 0
Reaches r s = (r.object.0 < s.object.0) ⊎ ((s.object.0 ≡ r.object.0) × (r.span.from ≤ℤ s.span.to))

-- what the row has and the cuts haven't was added, and those cuts are left that go on behind the row
pub record CutsRow (row : OneRow) (cuts left old new : List OneRow) : Type 0 where
  pub met : List OneRow
  pub there : (s : OneRow) → Among met s → Among cuts s
  pub meets : (s : OneRow) → Among met s → MeetsTime row s
  pub all : (s : OneRow) → Among cuts s → MeetsTime row s → Among met s
  pub uncut : HasUncut row met old new
  pub left_there : (s : OneRow) → Among left s → Among cuts s
  pub left_order : IsOneTime left
  pub kept : (s : OneRow) → Among cuts s → (row.object.0 < s.object.0) ⊎ ((s.object.0 ≡ row.object.0) × (row.span.to <ℤ s.span.to)) → Among left s
