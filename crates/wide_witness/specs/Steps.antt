-- Where steps lead, and when that shows that a relation is wide.
use Rattle.std.specs.Prelude.{◌≡◌, ◌⊎◌, ℕ, zero, suc, ◌+◌, ◌<◌, ◌≤◌, ℤ, ◌≤ℤ◌, List, [], ◌∷◌, Option, Some, None, length}
use Rattle.itpg_base.specs.Lists.{Among, Ordered}
use Rattle.itpg_base.specs.Points.{Point, Relation}
use Rattle.itpg_base.specs.Spans.{IsSpan}
use Rattle.relation_rows.specs.declared.rows.Row.{Row}
use Rattle.relation_rows.specs.declared.times.OneRow.{OneRow}
use Rattle.relation_rows.specs.Rows.{InRow, RowsHold}
use Rattle.relation_rows.specs.Times.{AreTimes, InTime, TimesHold}

-- at most n steps of the relation lead from the one point to the other
unfoldable pub Reaches : Relation → ℕ → Point → Point → Type 0
Reaches R zero x y = x ≡ y
Reaches R (suc n) x y = Reaches R n x y ⊎ ((z : Point) × Reaches R n x z × R z y)

-- the runs have the point's object at its moment
abbrev pub HavePoint : List OneRow → Point → Type 0
HavePoint runs y = TimesHold runs y.object y.moment

-- the run, if there is one, has it
abbrev pub HasPoint : Option OneRow → Point → Type 0
HasPoint (Some run) y = InTime run y.object y.moment
HasPoint None y = ⊥

-- the point, as the object and the moment that it has
abbrev pub point : ℕ → ℤ → Point
point o t = record { object = o; moment = t }

-- a point from which a step leads on, and the runs of moments to which so many steps at most lead from it
pub record Seen (R : Relation) (steps : ℕ) : Type 0 where
  pub from : Point
  pub to : Point
  pub leads : R from to
  pub runs : List OneRow
  pub are : AreTimes (λ o t. Reaches R steps from (point o t)) runs

-- the points are of different objects
abbrev pub AreOfOthers : {R : Relation} {steps : ℕ} → Seen R steps → Seen R steps → Type 0
AreOfOthers a b = a.from.object ≡ b.from.object → ⊥

-- how many runs they lead to, all together
unfoldable pub runs_seen : {R : Relation} {steps : ℕ} → List (Seen R steps) → ℕ
runs_seen [] = 0
runs_seen (seen ∷ rest) = length seen.runs + runs_seen rest

-- from some points, no two of them of one object, so many steps at most lead to more runs of moments than the limit, all together
pub record IsSeenWide (R : Relation) (steps limit : ℕ) : Type 0 where
  pub all : List (Seen R steps)
  pub apart : Ordered AreOfOthers all
  pub many : limit < runs_seen all

-- from some point of the object, so many steps at most lead to so many runs, or the number is 0
abbrev pub AreSeenFrom : Relation → ℕ → ℕ → ℕ → Type 0
AreSeenFrom R steps o count = (count ≡ 0) ⊎ ((seen : Seen R steps) × (seen.from.object ≡ o) × (count ≤ length seen.runs))

-- the run is the row's source at one of its departures
pub record IsDepartureOf (r : Row) (run : OneRow) : Type 0 where
  pub object : run.object.0 ≡ r.source.0
  pub from : r.band.from ≤ℤ run.span.from
  pub to : run.span.from ≤ℤ r.band.to
  pub one : run.span.to ≡ run.span.from

-- the row leads to the point from one that the run has
abbrev pub LeadsFrom : Row → OneRow → Point → Type 0
LeadsFrom row run y = (z : Point) × InTime run z.object z.moment × InRow row z y

-- each run is a span
abbrev pub AreSpans : List OneRow → Type 0
AreSpans runs = (run : OneRow) → Among runs run → IsSpan run.span

-- what the rows lead to from the run was added, but for what all have
pub record IsPushed (run : OneRow) (rows : List Row) (all old new : List OneRow) : Type 0 where
  pub whole : (z y : Point) → InTime run z.object z.moment → RowsHold rows z y → HavePoint all y ⊎ HavePoint new y
  pub only : (y : Point) → HavePoint new y → HavePoint old y ⊎ ((z : Point) × InTime run z.object z.moment × RowsHold rows z y)
  pub kept : (y : Point) → HavePoint old y → HavePoint new y
  pub spans : AreSpans old → AreSpans new

-- the rows lead to it from one that the runs have
abbrev pub LeadOn : List Row → List OneRow → Point → Type 0
LeadOn rows runs y = (z : Point) × HavePoint runs z × RowsHold rows z y

-- these are the points that at most n steps reach, and from each of them but the newest a step leads to one of them
pub record AreReached (R : Relation) (from : Point) (n : ℕ) (all newest : List OneRow) : Type 0 where
  pub whole : (y : Point) → Reaches R n from y → HavePoint all y
  pub only : (y : Point) → HavePoint all y → Reaches R n from y
  pub spans : AreSpans all
  pub newest_there : (y : Point) → HavePoint newest y → HavePoint all y
  pub newest_spans : AreSpans newest
  pub led : (z y : Point) → HavePoint all z → R z y → HavePoint all y ⊎ HavePoint newest z

-- what a step from the newest adds to all
pub record IsAdded (rows : List Row) (newest all added : List OneRow) : Type 0 where
  pub whole : (y : Point) → LeadOn rows newest y → HavePoint all y ⊎ HavePoint added y
  pub only : (y : Point) → HavePoint added y → LeadOn rows newest y
  pub spans : AreSpans added
