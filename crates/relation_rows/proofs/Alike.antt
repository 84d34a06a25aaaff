-- Relations that hold the same pairs have the same normal rows, and normal rows are those of the relation that they hold.
use Rattle.std.proofs.Common.{ℕ, ℤ, List, subst, arith}
use Rattle.std.proofs.lemmas.Int.{ints}
use Rattle.itpg_base.specs.Points.{Point, Relation}
use Rattle.band_normal.specs.declared.band.Band.{Band}
use Rattle.itpg_base.specs.Lists.{Among}
use Rattle.band_normal.specs.Bands.{InBand, IsWellFormed, end_at}
use Rattle.band_normal.specs.Normal.{IsRun, IsRow}
use Rattle.relation_rows.specs.declared.rows.Row.{Row}
use Rattle.relation_rows.specs.Rows.{between, InRow, RowsHold, NormalRows, Fits, IsWide, IsRelation}

run_alike : (R S : ℤ → ℤ → Type 0) → ((t u : ℤ) → R t u → S t u) → ((t u : ℤ) → S t u → R t u) → (t l h : ℤ) → IsRun R t l h → IsRun S t l h
run_alike R S f g t l h r = record { some = r.some; each = λ u a b. f t u (r.each u a b); below = λ q. r.below (g t _ q); above = λ q. r.above (g t _ q) }

pub row_alike : (R S : ℤ → ℤ → Type 0) → ((t u : ℤ) → R t u → S t u) → ((t u : ℤ) → S t u → R t u) → (b : Band) → IsRow R b → IsRow S b
row_alike R S f g b r = record {
  span = r.span;
  runs = λ t x y. run_alike R S f g t _ _ (r.runs t x y);
  single_low = r.single_low;
  single_high = r.single_high;
  stops = λ l h q x y. r.stops l h (run_alike S R g f _ l h q) x y;
}

pub rows_alike : (R S : Relation) → ((x y : Point) → R x y → S x y) → ((x y : Point) → S x y → R x y) → (rows : List Row) → NormalRows R rows → NormalRows S rows
rows_alike R S f g rows n = record {
  whole = λ x y h. n.whole x y (g x y h);
  once = n.once;
  each = λ r i. row_alike (between R r.source.0 r.target.0) (between S r.source.0 r.target.0) (λ t u h. f _ _ h) (λ t u h. g _ _ h) r.band (n.each r i);
  order = n.order;
}

pub fits_alike : (R S : Relation) → ((x y : Point) → R x y → S x y) → ((x y : Point) → S x y → R x y) → (limit : ℕ) → Fits R limit → Fits S limit
fits_alike R S f g limit h = (h.0, rows_alike R S f g h.0 h.1, h.2)

pub wide_alike : (R S : Relation) → ((x y : Point) → R x y → S x y) → ((x y : Point) → S x y → R x y) → (limit : ℕ) → IsWide R limit → IsWide S limit
wide_alike R S f g limit w rows n = w rows (rows_alike S R g f rows n)

-- the rows hold the relation's pairs and no other
pub rows_hold : (R : Relation) (rows : List Row) → NormalRows R rows → (x y : Point) → R x y → RowsHold rows x y
rows_hold R rows n = n.whole

-- what a row of these holds is in the relation
pub in_relation : (R : Relation) (r : Row) (x y : Point) → IsRow (between R r.source.0 r.target.0) r.band → InRow r x y → R x y
in_relation R r x y row i =
    let p = i.pair in
    let q = (row.runs x.moment p.from p.to).each y.moment p.low p.high in
    subst (λ (v : ℕ). R (record { object = v; moment = x.moment }) y) i.source (subst (λ (v : ℕ). R (record { object = r.source.0; moment = x.moment }) (record { object = v; moment = y.moment })) i.target q)

pub hold_only : (R : Relation) (rows : List Row) → NormalRows R rows → (x y : Point) → RowsHold rows x y → R x y
hold_only R rows n x y h = in_relation R h.0 x y (n.each h.0 h.1) h.2

pub normal_self : (R : Relation) (rows : List Row) → NormalRows R rows → NormalRows (RowsHold rows) rows
normal_self R rows n = rows_alike R (RowsHold rows) (rows_hold R rows n) (hold_only R rows n) rows n

-- rows that are normal for what they hold are normal for a relation that holds the same
pub self_normal : (R : Relation) (rows : List Row) → NormalRows (RowsHold rows) rows → ((x y : Point) → R x y → RowsHold rows x y) → ((x y : Point) → RowsHold rows x y → R x y) → NormalRows R rows
self_normal R rows n f g = rows_alike (RowsHold rows) R g f rows n

pub relation_of : (R : Relation) (rows : List Row) → NormalRows R rows → ((r : Row) → Among rows r → IsWellFormed r.band) → IsRelation rows
relation_of R rows n formed = record { normal = normal_self R rows n; formed = formed }

-- each row holds some pair: its low end at its first departure
pub row_start : (R : ℤ → ℤ → Type 0) (b : Band) → IsRow R b → InBand b b.from (end_at b.low b.from)
row_start R b r = record { from = omega (arith, ints); to = r.span; low = omega (arith, ints); high = (r.runs b.from (omega (arith, ints)) r.span).some }

pub wide_apart : (R : Relation) (limit : ℕ) → Fits R limit → IsWide R limit → ⊥
wide_apart R limit f w = let l = w f.0 f.1 in let m = f.2 in omega arith
