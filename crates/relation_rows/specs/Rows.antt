-- Rows, and what it means that a list of them is normal for a relation of points.
use Rattle.std.specs.Prelude.{◌≡◌, ◌⊎◌, Bool, IsTrue, ℕ, ◌<◌, ◌≤◌, ℤ, List, [], ◌∷◌, length}
use Rattle.itpg_base.specs.Points.{Point, Relation}
use Rattle.zone_core.specs.Zone.{Between}
use Rattle.band_normal.specs.declared.band.Band.{Band}
use Rattle.itpg_base.specs.Lists.{Among, Ordered}
use Rattle.band_normal.specs.Bands.{InBand, IsWellFormed}
use Rattle.band_normal.specs.Normal.{IsRow, IsBefore}
use Rattle.relation_rows.specs.declared.rows.Row.{Row}

-- the moments that the relation joins, from one object to another
abbrev pub between : Relation → ℕ → ℕ → ℤ → ℤ → Type 0
between R o p t u = R (record { object = o; moment = t }) (record { object = p; moment = u })

-- the row has the pair: of its source and its target, at a departure and an arrival of its band
pub record InRow (r : Row) (x y : Point) : Type 0 where
  pub source : r.source.0 ≡ x.object
  pub target : r.target.0 ≡ y.object
  pub pair : InBand r.band x.moment y.moment

-- some row of the list has the pair
abbrev pub RowsHold : List Row → Relation
RowsHold rows x y = (r : Row) × Among rows r × InRow r x y

-- the row leads from the one object to the other
abbrev pub HasKey : Row → ℕ → ℕ → Type 0
HasKey r o p = (r.source.0 ≡ o) × (r.target.0 ≡ p)

-- by source, then by target
abbrev pub KeyBefore : ℕ → ℕ → ℕ → ℕ → Type 0
KeyBefore o p q r = (o < q) ⊎ ((o ≡ q) × (p < r))

-- by source, by target, by the first departure, then by the low end there
abbrev pub RowBefore : Row → Row → Type 0
RowBefore r s = KeyBefore r.source.0 r.target.0 s.source.0 s.target.0 ⊎ ((r.source.0 ≡ s.source.0) × (r.target.0 ≡ s.target.0) × IsBefore r.band s.band)

-- the list of rows is normal for the relation
pub record NormalRows (R : Relation) (rows : List Row) : Type 0 where
  -- each pair is in a row, and in no other
  pub whole : (x y : Point) → R x y → (r : Row) × Among rows r × InRow r x y
  pub once : (r s : Row) (x y : Point) → Among rows r → Among rows s → InRow r x y → InRow s x y → r ≡ s
  -- the band of each row is a row of what the relation joins from its source to its target; so it holds no other pair
  pub each : (r : Row) → Among rows r → IsRow (between R r.source.0 r.target.0) r.band
  pub order : Ordered RowBefore rows

-- its normal list is there
abbrev pub HasRows : Relation → Type 0
HasRows R = (rows : List Row) × NormalRows R rows

-- its normal list is there, and has at most so many rows
abbrev pub Fits : Relation → ℕ → Type 0
Fits R limit = (rows : List Row) × NormalRows R rows × (length rows ≤ limit)

-- its normal list is there, and has more rows
abbrev pub HasMoreRows : Relation → ℕ → Type 0
HasMoreRows R limit = (rows : List Row) × NormalRows R rows × (limit < length rows)

-- its normal list has more rows
abbrev pub IsWide : Relation → ℕ → Type 0
IsWide R limit = (rows : List Row) → NormalRows R rows → limit < length rows

-- the rows are normal for what they hold, and their bands well formed: this is what a value of the type `Relation` is
pub record IsRelation (rows : List Row) : Type 0 where
  pub normal : NormalRows (RowsHold rows) rows
  pub formed : (r : Row) → Among rows r → IsWellFormed r.band

-- each pair joins two objects of numbers below `objects`, at moments from `low` to `high`
pub record IsFinite (objects : ℕ) (low high : ℤ) (R : Relation) : Type 0 where
  pub source : (x y : Point) → R x y → x.object < objects
  pub target : (x y : Point) → R x y → y.object < objects
  pub departs : (x y : Point) → R x y → Between low high x.moment
  pub arrives : (x y : Point) → R x y → Between low high y.moment

-- the test is true of the pair
abbrev pub of_test : (Point → Point → Bool) → Relation
of_test test x y = IsTrue (test x y)

-- bands of one source and target as rows
abbrev pub rows_at : ℕ → ℕ → List Band → List Row
rows_at o p [] = []
rows_at o p (b ∷ bs) = record { source = record { 0 = o }; target = record { 0 = p }; band = b } ∷ rows_at o p bs
