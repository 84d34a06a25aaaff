-- The places at which the rows from each object begin.
use Rattle.std.specs.Prelude.{◌≡◌, ◌⊎◌, ℕ, ◌+◌, ◌<◌, ◌≤◌, List, length, take, drop, slice_get, Some}
use Rattle.itpg_base.specs.Lists.{Among, Ordered}
use Rattle.relation_rows.specs.declared.rows.Row.{Row}
use Rattle.relation_rows.specs.Rows.{RowBefore}

-- the rows from objects before this one stand before the place, and all others behind it
pub record IsBegin (rows : List Row) (o place : ℕ) : Type 0 where
  pub within : place ≤ length rows
  pub before : (r : Row) → Among (take place rows) r → r.source.0 < o
  pub behind : (r : Row) → Among (drop place rows) r → o ≤ r.source.0

-- so it is with each place that is listed, of one object after the other
abbrev pub AreBegins : List Row → ℕ → List ℕ → Type 0
AreBegins rows first begins = (k place : ℕ) → slice_get begins k ≡ Some place → IsBegin rows (first + k) place

-- rows in order, and such places
pub record AreOffsets (rows : List Row) (first : ℕ) (places : List ℕ) : Type 0 where
  pub order : Ordered RowBefore rows
  pub begins : AreBegins rows first places

-- at least so many places are listed now, and each that wasn't before is this one
pub record IsFilled (count place : ℕ) (old new : List ℕ) : Type 0 where
  pub many : count ≤ length new
  pub longer : length old ≤ length new
  pub each : (k other : ℕ) → slice_get new k ≡ Some other → (slice_get old k ≡ Some other) ⊎ ((other ≡ place) × (length old ≤ k) × (k < count))
