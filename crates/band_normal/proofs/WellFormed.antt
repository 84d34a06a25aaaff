-- The rows of a relation whose moments are in range are well formed.
use Rattle.std.proofs.Common.{List, ℤ, ◌≤ℤ◌, arith}
use Rattle.std.proofs.lemmas.Int.{ints}
use Rattle.zone_core.specs.declared.Bounds.{Bounds}
use Rattle.zone_core.specs.Zone.{Meets, IsNear}
use Rattle.band_normal.specs.declared.band.Band.{Band}
use Rattle.itpg_base.specs.Lists.{Among}
use Rattle.band_normal.specs.Strips.{Holds}
use Rattle.band_normal.specs.Bands.{end_at, IsWellFormed}
use Rattle.band_normal.specs.Normal.{IsRow, IsStrip, IsInRange}

pub near-in_range : (k : Bounds) → IsNear k → IsInRange (Meets k)
near-in_range k n = record {
  from = λ t u m. let a = n.a in let b = m.from in omega (arith, ints);
  to = λ t u m. let a = n.b in let b = m.to in omega (arith, ints);
  first = λ t u m. let a = n.c in let b = m.low in omega (arith, ints);
  last = λ t u m. let a = n.d in let b = m.high in omega (arith, ints);
}

pub strip-well_formed : (R : ℤ → ℤ → Type 0) (b : Band) → IsInRange R → IsStrip R b → IsWellFormed b
strip-well_formed R b lies row =
    let low = λ (t : ℤ) (p : b.from ≤ℤ t) (q : t ≤ℤ b.to). (row.runs t p q).each (end_at b.low t) (omega (arith, ints)) (row.runs t p q).some in
    let high = λ (t : ℤ) (p : b.from ≤ℤ t) (q : t ≤ℤ b.to). (row.runs t p q).each (end_at b.high t) (row.runs t p q).some (omega (arith, ints)) in
    let first = low b.from (omega (arith, ints)) row.span in
    let last = low b.to row.span (omega (arith, ints)) in
    record {
      span = row.span;
      from = record { above = lies.from _ _ first; below = lies.to _ _ first };
      to = record { above = lies.from _ _ last; below = lies.to _ _ last };
      low = λ t p q. record { above = lies.first _ _ (low t p q); below = lies.last _ _ (low t p q) };
      high = λ t p q. record { above = lies.first _ _ (high t p q); below = lies.last _ _ (high t p q) };
      some = λ t p q. (row.runs t p q).some;
    }

pub row-well_formed : (R : ℤ → ℤ → Type 0) (b : Band) → IsInRange R → IsRow R b → IsWellFormed b
row-well_formed R b lies row = strip-well_formed R b lies (record { span = row.span; runs = row.runs })

-- the pairs of well-formed bands are in range
pub held-in_range : (bands : List Band) → ((b : Band) → Among bands b → IsWellFormed b) → IsInRange (Holds bands)
held-in_range bands well = record {
  from = λ t u h. let w = (well h.0 h.1).from in let i = h.2 in let a = i.from in let b = w.above in omega (arith, ints);
  to = λ t u h. let w = (well h.0 h.1).to in let i = h.2 in let a = i.to in let b = w.below in omega (arith, ints);
  first = λ t u h. let i = h.2 in let w = (well h.0 h.1).low t i.from i.to in let a = i.low in let b = w.above in omega (arith, ints);
  last = λ t u h. let i = h.2 in let w = (well h.0 h.1).high t i.from i.to in let a = i.high in let b = w.below in omega (arith, ints);
}
