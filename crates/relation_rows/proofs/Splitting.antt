-- Two relations of which no departures are at or beside one another: a normal list of both falls into one of each.
use Rattle.std.proofs.Common.{◌≡◌, ◌⊎◌, inl, inr, ⊎_elim, ◌+◌, ℤ, pos, ◌+ℤ◌, ◌-ℤ◌, ◌≤ℤ◌, List, [], ◌∷◌, length, refl, subst, arith}
use Rattle.std.proofs.lemmas.Int.{ints}
use Rattle.itpg_base.specs.Lists.{Among, Ordered}
use Rattle.itpg_base.specs.Points.{Point, Relation}
use Rattle.band_normal.specs.Bands.{end_at}
use Rattle.band_normal.specs.Normal.{IsRun, IsRow}
use Rattle.band_normal.proofs.Far.{climb_to}
use Rattle.relation_rows.specs.declared.rows.Row.{Row}
use Rattle.relation_rows.specs.Rows.{between, RowBefore, NormalRows}
use Rattle.relation_rows.proofs.Alike.{row_alike, in_relation, row_start}
use Rattle.relation_rows.proofs.Diagonals.{point}

-- what either holds
abbrev pub Either : Relation → Relation → Relation
Either R S x y = R x y ⊎ S x y

-- no departure of the one is a departure of the other, or beside one
abbrev pub DepartFar : Relation → Relation → Type 0
DepartFar R S = (x y z w : Point) → R x y → S z w → z.moment ≤ℤ (x.moment +ℤ pos 1) → x.moment ≤ℤ (z.moment +ℤ pos 1) → ⊥

far_back : (R S : Relation) → DepartFar R S → DepartFar S R
far_back R S f x y z w s r near near' = f z w x y r s near' near

-- the row's first pair is one of the relation
abbrev BeginsIn : Relation → Row → Type 0
BeginsIn R r = between R r.source.0 r.target.0 r.band.from (end_at r.band.low r.band.from)

-- a row of both that begins in the one is a row of it
module _ (R S : Relation) (far : DepartFar R S) (r : Row) (row : IsRow (between (Either R S) r.source.0 r.target.0) r.band) (begins : BeginsIn R r) where
  abbrev here : ℤ → Point
  here t = point r.source.0 t

  abbrev there : ℤ → Point
  there u = point r.target.0 u

  pub departs : (t : ℤ) → r.band.from ≤ℤ t → t ≤ℤ r.band.to → R (here t) (there (end_at r.band.low t))
  departs = climb_to (λ t. R (here t) (there (end_at r.band.low t))) r.band.from r.band.to begins next
    where
      next : (t : ℤ) → r.band.from ≤ℤ t → (t +ℤ pos 1) ≤ℤ r.band.to → R (here t) (there (end_at r.band.low t)) → R (here (t +ℤ pos 1)) (there (end_at r.band.low (t +ℤ pos 1)))
      next t from to now =
          let run = row.runs (t +ℤ pos 1) (omega (arith, ints)) to in
          ⊎_elim (λ h. h)
          (λ s. absurd (far (here t) (there (end_at r.band.low t)) (here (t +ℤ pos 1)) (there (end_at r.band.low (t +ℤ pos 1))) now s (omega (arith, ints)) (omega (arith, ints))))
          (run.each (end_at r.band.low (t +ℤ pos 1)) (omega (arith, ints)) run.some)

  own : (t u : ℤ) → r.band.from ≤ℤ t → t ≤ℤ r.band.to → Either R S (here t) (there u) → R (here t) (there u)
  own t u from to h = ⊎_elim (λ k. k) (λ s. absurd (far (here t) (there (end_at r.band.low t)) (here t) (there u) (departs t from to) s (omega (arith, ints)) (omega (arith, ints)))) h

  -- a run of the one is a run of both
  whole_run : (t low high : ℤ) → IsRun (between R r.source.0 r.target.0) t low high → IsRun (between (Either R S) r.source.0 r.target.0) t low high
  whole_run t low high run =
      let first = run.each low (omega (arith, ints)) run.some in
      let apart = λ (u : ℤ) (s : S (here t) (there u)). far (here t) (there low) (here t) (there u) first s (omega (arith, ints)) (omega (arith, ints)) in
      record {
        some = run.some;
        each = λ u a b. inl (run.each u a b);
        below = λ k. ⊎_elim (λ h. run.below h) (λ s. apart (low -ℤ pos 1) s) k;
        above = λ k. ⊎_elim (λ h. run.above h) (λ s. apart (high +ℤ pos 1) s) k;
      }

  pub own_row : IsRow (between R r.source.0 r.target.0) r.band
  own_row = record {
    span = row.span;
    runs = λ t from to.
        let run = row.runs t from to in
        record { some = run.some; each = λ u a b. own t u from to (run.each u a b); below = λ h. run.below (inl h); above = λ h. run.above (inl h) };
    single_low = row.single_low;
    single_high = row.single_high;
    stops = λ low high run. row.stops low high (whole_run (r.band.to +ℤ pos 1) low high run);
  }

-- the rows, by the relation in which they begin
record AreSplit (R S : Relation) (rows first second : List Row) : Type 0 where
  count : length rows ≡ length first + length second
  in_first : (r : Row) → Among first r → Among rows r × BeginsIn R r
  in_second : (r : Row) → Among second r → Among rows r × BeginsIn S r
  either : (r : Row) → Among rows r → Among first r ⊎ Among second r
  first_order : Ordered RowBefore first
  second_order : Ordered RowBefore second

split : (R S : Relation) (rows : List Row) → ((r : Row) → Among rows r → BeginsIn R r ⊎ BeginsIn S r) → Ordered RowBefore rows → (first : List Row) × (second : List Row) × AreSplit R S rows first second
split R S [] begins o = ([], [], record { count = refl; in_first = λ r a. absurd a; in_second = λ r a. absurd a; either = λ r a. absurd a; first_order = tt; second_order = tt })
split R S (r ∷ rows) begins o =
    let rest = split R S rows (λ s a. begins s (inr a)) o.1 in
    let s = rest.2 in
    elim (begins r (inl refl)) [
      | inl h ↦ (
        r ∷ rest.0,
        rest.1,
        record {
          count = let c = s.count in omega (arith, c);
          in_first = λ v a. ⊎_elim (λ (e : r ≡ v). (inl e, subst (BeginsIn R) e h)) (λ b. let w = s.in_first v b in (inr w.0, w.1)) a;
          in_second = λ v a. let w = s.in_second v a in (inr w.0, w.1);
          either = λ v a. ⊎_elim (λ (e : r ≡ v). inl (inl e)) (λ b. ⊎_elim (λ c. inl (inr c)) (λ c. inr c) (s.either v b)) a;
          first_order = (λ v a. o.0 v (s.in_first v a).0, s.first_order);
          second_order = s.second_order;
        },
      )
      | inr h ↦ (
        rest.0,
        r ∷ rest.1,
        record {
          count = let c = s.count in omega (arith, c);
          in_first = λ v a. let w = s.in_first v a in (inr w.0, w.1);
          in_second = λ v a. ⊎_elim (λ (e : r ≡ v). (inl e, subst (BeginsIn S) e h)) (λ b. let w = s.in_second v b in (inr w.0, w.1)) a;
          either = λ v a. ⊎_elim (λ (e : r ≡ v). inr (inl e)) (λ b. ⊎_elim (λ c. inl c) (λ c. inr (inr c)) (s.either v b)) a;
          first_order = s.first_order;
          second_order = (λ v a. o.0 v (s.in_second v a).0, s.second_order);
        },
      )
    ]

module _ (R S : Relation) (far : DepartFar R S) (rows : List Row) (n : NormalRows (Either R S) rows) where
  begins : (r : Row) → Among rows r → BeginsIn R r ⊎ BeginsIn S r
  begins r a =
      let row = n.each r a in
      in_relation (Either R S) r (point r.source.0 r.band.from) (point r.target.0 (end_at r.band.low r.band.from)) row
      (record { source = refl; target = refl; pair = row_start (between (Either R S) r.source.0 r.target.0) r.band row })

  other_way : (r : Row) → Among rows r → IsRow (between (Either S R) r.source.0 r.target.0) r.band
  other_way r a = row_alike (between (Either R S) r.source.0 r.target.0) (between (Either S R) r.source.0 r.target.0)
      (λ t u h. ⊎_elim (λ k. inr k) (λ k. inl k) h) (λ t u h. ⊎_elim (λ k. inr k) (λ k. inl k) h) r.band (n.each r a)

  pub split_normal : (first : List Row) × (second : List Row) × NormalRows R first × NormalRows S second × (length rows ≡ length first + length second)
  split_normal =
      let parts = split R S rows begins n.order in
      let s = parts.2 in (
        parts.0,
        parts.1,
        record {
          whole = λ x y h.
              let w = n.whole x y (inl h) in
              let p = w.2.pair in
              ⊎_elim
              (λ a. (w.0, a, w.2))
              (λ a.
              let k = s.in_second w.0 a in
              absurd (far_back R S far (point (w.0).source.0 x.moment) (point (w.0).target.0 (end_at (w.0).band.low x.moment)) x y (departs S R (far_back R S far) w.0 (other_way w.0 w.1) k.1 x.moment p.from p.to) h (omega (arith, ints)) (omega (arith, ints))))
              (s.either w.0 w.1);
          once = λ r t x y a b i j. n.once r t x y (s.in_first r a).0 (s.in_first t b).0 i j;
          each = λ r a. let k = s.in_first r a in own_row R S far r (n.each r k.0) k.1;
          order = s.first_order;
        },
        record {
          whole = λ x y h.
              let w = n.whole x y (inr h) in
              let p = w.2.pair in
              ⊎_elim
              (λ a.
              let k = s.in_first w.0 a in
              absurd (far (point (w.0).source.0 x.moment) (point (w.0).target.0 (end_at (w.0).band.low x.moment)) x y (departs R S far w.0 (n.each w.0 w.1) k.1 x.moment p.from p.to) h (omega (arith, ints)) (omega (arith, ints))))
              (λ a. (w.0, a, w.2))
              (s.either w.0 w.1);
          once = λ r t x y a b i j. n.once r t x y (s.in_second r a).0 (s.in_second t b).0 i j;
          each = λ r a. let k = s.in_second r a in own_row S R (far_back R S far) r (other_way r k.0) k.1;
          order = s.second_order;
        },
        s.count,
      )
