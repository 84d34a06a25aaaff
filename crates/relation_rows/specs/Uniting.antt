-- Rows of one source and one target, and the union of those of two lists.
use Rattle.std.specs.Prelude.{◌≡◌, ◌⊎◌, ◌++◌, ℕ, ℤ, List, map, take, drop}
use Rattle.band_normal.specs.declared.band.Band.{Band}
use Rattle.itpg_base.specs.Lists.{Among}
use Rattle.band_normal.specs.Bands.{InBand, IsWellFormed}
use Rattle.band_normal.specs.Normal.{Normal}
use Rattle.relation_rows.specs.declared.rows.Row.{Row}
use Rattle.relation_rows.specs.Rows.{KeyBefore, HasKey, rows_at}

-- by source and target, the first row doesn't come after the second
abbrev pub KeyUpTo : Row → Row → Type 0
KeyUpTo r s = KeyBefore r.source.0 r.target.0 s.source.0 s.target.0 ⊎ HasKey s r.source.0 r.target.0

-- the row is in one of the lists, and no row of either comes before its source and target
pub record IsNext (first second : List Row) (r : Row) : Type 0 where
  pub there : Among first r ⊎ Among second r
  pub first_up : (s : Row) → Among first s → KeyUpTo r s
  pub second_up : (s : Row) → Among second s → KeyUpTo r s

-- the band of some row has the pair of moments
abbrev pub SomeHasBand : List Row → ℤ → ℤ → Type 0
SomeHasBand rows t u = (r : Row) × Among rows r × InBand r.band t u

-- some row of the one list or of the other has it
abbrev pub EitherHas : List Row → List Row → ℤ → ℤ → Type 0
EitherHas first second t u = SomeHasBand first t u ⊎ SomeHasBand second t u

-- the rows are of the key's source and target, and their bands are a normal list
pub record IsPart (key : Row) (rows : List Row) : Type 0 where
  pub keyed : (r : Row) → Among rows r → HasKey r key.source.0 key.target.0
  pub formed : (r : Row) → Among rows r → IsWellFormed r.band
  pub normal : Normal (SomeHasBand rows) (map (λ (r : Row). r.band) rows)

-- the normal list of the bands of both is added, as rows of the key's source and target
abbrev pub HasPushed : Row → List Row → List Row → List Row → List Row → Type 0
HasPushed key here there old new = (bands : List Band) × Normal (EitherHas here there) bands × ((b : Band) → Among bands b → IsWellFormed b) × (new ≡ old ++ rows_at key.source.0 key.target.0 bands)

-- so many of the left rows, from the first on, come by source and target before all others of both lists
pub record ComeFirst (left right : List Row) (count : ℕ) : Type 0 where
  pub others : (r s : Row) → Among (take count left) r → Among right s → KeyBefore r.source.0 r.target.0 s.source.0 s.target.0
  pub later : (r s : Row) → Among (take count left) r → Among (drop count left) s → KeyBefore r.source.0 r.target.0 s.source.0 s.target.0
