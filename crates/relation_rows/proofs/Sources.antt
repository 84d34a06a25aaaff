-- The first rows of a list in order that have one source, all that have one, and those of busy sources.
use Rattle.std.proofs.Common.{◌≡◌, ◌↔◌, ◌⊎◌, inl, inr, ⊎_elim, ℕ, ◌<◌, ◌≤◌, List, [], ◌∷◌, ◌++◌, length, get_or, take, drop, Some, None, refl, sym, ◌∙◌, subst, arith, Bool, true, false, true≢false}
use Rattle.std.specs.Prelude.{slice_get, ◌==◌}
use Rattle.std.specs.List.Sorted.{IsPartitionedBy, IsPartitionPoint}
use Rattle.std.proofs.lemmas.Bool.Decides.{eqb_tells}
use Rattle.std.proofs.lemmas.List.{take-append-drop, get_or_default}
use Rattle.std.proofs.lemmas.Option.{slice_get_within, get_or_from_slice_get}
use Rattle.itpg_base.specs.Points.{Point}
use Rattle.itpg_base.specs.Lists.{Among, Ordered}
use Rattle.band_normal.specs.Bands.{IsWellFormed}
use Rattle.itpg_base.proofs.Lists.{among_at, among_append, append_first, append_second, ordered_by_place, ordered_first, ordered_unique}
use Rattle.relation_rows.specs.declared.rows.Row.{Row}
use Rattle.relation_rows.specs.declared.timetable.Leg.{Leg}
use Rattle.relation_rows.specs.Rows.{RowBefore, RowsHold}
use Rattle.relation_rows.specs.Timetables.{LegsHold, IsTimetable}
use Rattle.relation_rows.specs.Ways.{AreFrom, HasBusy, AreComposed}
use Rattle.relation_rows.proofs.Listed.{row_apart}
use Rattle.relation_rows.proofs.Reaching.{none_reach}
use Rattle.relation_rows.proofs.Partitions.{among_before, among_behind, among_either, front_among, rest_among, rest_ordered, first_before}

abbrev pub has_source : Row → Row → Bool
has_source first r = r.source.0 == first.source.0

pub source_up : (r s : Row) → RowBefore r s → r.source.0 ≤ s.source.0
source_up r s (inl (inl l)) = omega arith
source_up r s (inl (inr (e, l))) = omega arith
source_up r s (inr (e, f, b)) = omega arith

source_is : (first r : Row) → has_source first r ≡ true → r.source.0 ≡ first.source.0
source_is first r e = ⊎_elim (λ k. k.1) (λ k. absurd (true≢false (sym e ∙ k.0))) (eqb_tells r.source.0 first.source.0)

is_source : (first r : Row) → r.source.0 ≡ first.source.0 → has_source first r ≡ true
is_source first r e = ⊎_elim (λ k. k.0) (λ k. absurd (k.1 e)) (eqb_tells r.source.0 first.source.0)

other_source : (first r : Row) → has_source first r ≡ false → r.source.0 ≡ first.source.0 → ⊥
other_source first r e f = true≢false (sym (is_source first r f) ∙ e)

module _ (rows : List Row) (first : Row) (order : Ordered RowBefore rows) (is : slice_get rows 0 ≡ Some first) where
  from_first : (r : Row) → Among rows r → first.source.0 ≤ r.source.0
  from_first r a = ⊎_elim (λ (e : first ≡ r). subst (λ (v : Row). first.source.0 ≤ v.source.0) e (omega arith)) (λ b. source_up first r b) (first_before RowBefore rows first order is r a)

  pub source_partitioned : IsPartitionedBy (has_source first) rows
  source_partitioned i j d le lt e = elim (eqb_tells i j) [
    | inl s ↦ subst (λ (v : ℕ). has_source first (get_or rows v d) ≡ true) (sym s.1) e
    | inr n ↦ (
        let here = source_is first (get_or rows j d) e in
        let up = source_up (get_or rows i d) (get_or rows j d) (ordered_by_place RowBefore rows order i j d (let ne = n.1 in omega arith) lt) in
        let low = from_first (get_or rows i d) (among_at rows i d (omega arith)) in
        is_source first (get_or rows i d) (omega arith)
        )
  ]

  module _ (n : ℕ) (bound : n ≤ length rows) (point : IsPartitionPoint (λ (r : Row). has_source first r ≡ true) (λ (r : Row). has_source first r ≡ false) rows n) where
    pub source_same : (r : Row) → Among (take n rows) r → r.source.0 ≡ first.source.0
    source_same r a = source_is first r (among_before (λ (s : Row). has_source first s ≡ true) rows n bound point.0 r a)

    pub source_later : (r : Row) → Among (drop n rows) r → first.source.0 < r.source.0
    source_later r a =
        let other = other_source first r (among_behind (λ (s : Row). has_source first s ≡ false) rows n bound point.1 r a) in
        let low = from_first r (rest_among rows n r a) in
        elim (eqb_tells r.source.0 first.source.0) [ inl e ↦ absurd (other e.1) | inr e ↦ (let ne = e.1 in omega arith) ]

    pub source_some : 0 < n
    source_some = elim (eqb_tells n 0) [
      | inl e ↦ absurd (
          let within = slice_get_within rows 0 first is in
          let at = point.1 0 first (let z = e.1 in omega arith) within in
          other_source first first (subst (λ (v : Row). has_source first v ≡ false) (get_or_from_slice_get rows 0 first first is) at) refl
          )
      | inr e ↦ (let ne = e.1 in omega arith)
    ]

  -- where the second row has another source, the first is alone
  module _ (second : Row) (more : 1 < length rows) (next : second ≡ get_or rows 1 second) (other : has_source first second ≡ false) where
    pub alone_point : IsPartitionPoint (λ (r : Row). has_source first r ≡ true) (λ (r : Row). has_source first r ≡ false) rows 1
    alone_point = (before, behind)
      where
        before : (k : ℕ) (d : Row) → 0 ≤ k → k < 1 → has_source first (get_or rows k d) ≡ true
        before k d le lk =
            let zero_is : 0 ≡ k = omega arith in
            let here : get_or rows k d ≡ first = subst (λ (v : ℕ). get_or rows v d ≡ first) zero_is (get_or_from_slice_get rows 0 first d is) in
            is_source first (get_or rows k d) (subst (λ (v : Row). v.source.0 ≡ first.source.0) (sym here) refl)

        by_test : (k : ℕ) (d : Row) → 1 ≤ k → k < length rows → (b : Bool) → has_source first (get_or rows k d) ≡ b → has_source first (get_or rows k d) ≡ false
        by_test k d le lk false e = e
        by_test k d le lk true e =
            let early = source_partitioned 1 k d le lk e in
            absurd (true≢false (sym (subst (λ (v : Row). has_source first v ≡ true) (get_or_default rows 1 d second more ∙ sym next) early) ∙ other))

        behind : (k : ℕ) (d : Row) → 1 ≤ k → k < length rows → has_source first (get_or rows k d) ≡ false
        behind k d le lk = by_test k d le lk (has_source first (get_or rows k d)) refl

-- ---- the rows of busy sources, one source after the other

-- the busy ones among the rows that are passed
pub record HasPassed (rows left busy : List Row) : Type 0 where
  pub order : Ordered RowBefore left
  pub left_there : (r : Row) → Among left r → Among rows r
  pub each : (r : Row) → Among rows r → ((s : Row) → Among left s → r.source.0 < s.source.0) ⊎ Among left r
  pub there : (r : Row) → Among busy r → Among rows r
  pub all : (o : ℕ) (group : List Row) → AreFrom rows o group → 8 < length group → ((s : Row) → Among left s → o < s.source.0) → (r : Row) → Among group r → Among busy r

pub none_passed : (rows busy : List Row) → busy ≡ [] → Ordered RowBefore rows → HasPassed rows rows busy
none_passed rows busy e o = record {
  order = o;
  left_there = λ r a. a;
  each = λ r a. inr a;
  there = λ r a. absurd (subst (λ (v : List Row). Among v r) e a);
  all = λ o group are many early r a.
      let k = (are.1 r).0 a in
      let l = early r k.0 in
      let f = k.1 in
      absurd (omega arith);
}

module _ (rows left busy : List Row) (g : HasPassed rows left busy) (first : Row) (head : Among left first) (n : ℕ)
    (same : (r : Row) → Among (take n left) r → r.source.0 ≡ first.source.0)
    (behind : (r : Row) → Among (drop n left) r → first.source.0 < r.source.0)
    (group later : List Row) (front : group ≡ take n left) (back : later ≡ drop n left) where
  group_order : Ordered RowBefore (take n left)
  group_order = ordered_first RowBefore (take n left) (drop n left) (subst (λ (v : List Row). Ordered RowBefore v) (sym (take-append-drop n left)) g.order)

  of_group : (r : Row) → Among group r ↔ (Among rows r × (r.source.0 ≡ first.source.0))
  of_group r = (
    λ a. let b = subst (λ (v : List Row). Among v r) front a in (g.left_there r (front_among left n r b), same r b),
    λ h. let e = h.1 in ⊎_elim
        (λ k. absurd (let l = k first head in omega arith))
        (λ a. ⊎_elim (λ b. subst (λ (v : List Row). Among v r) (sym front) b) (λ b. absurd (let l = behind r b in omega arith)) (among_either left n r a))
        (g.each r h.0),
  )

  -- other rows from the same source are the same list
  is_group : (o : ℕ) (those : List Row) → AreFrom rows o those → o ≡ first.source.0 → those ≡ group
  is_group o those are e = ordered_unique RowBefore row_apart those group are.0 (subst (λ (v : List Row). Ordered RowBefore v) (sym front) group_order)
      (λ r a. let k = (are.1 r).0 a in (of_group r).1 (k.0, k.1 ∙ e))
      (λ r a. let k = (of_group r).0 a in (are.1 r).1 (k.0, k.1 ∙ sym e))

  module _ (next : List Row) (kept : (r : Row) → Among busy r → Among next r) (pushed : 8 < length group → (r : Row) → Among group r → Among next r) (from : (r : Row) → Among next r → Among busy r ⊎ Among group r) where
    pub next_passed : HasPassed rows later next
    next_passed = record {
      order = subst (λ (v : List Row). Ordered RowBefore v) (sym back) (rest_ordered RowBefore left n g.order);
      left_there = λ r a. g.left_there r (rest_among left n r (subst (λ (v : List Row). Among v r) back a));
      each = λ r a. ⊎_elim
          (λ k. inl (λ s b. k s (rest_among left n s (subst (λ (v : List Row). Among v s) back b))))
          (λ l. ⊎_elim
          (λ b. inl (λ s d. subst (λ (v : ℕ). v < s.source.0) (sym (same r b)) (behind s (subst (λ (v : List Row). Among v s) back d))))
          (λ b. inr (subst (λ (v : List Row). Among v r) (sym back) b))
          (among_either left n r l))
          (g.each r a);
      there = λ r a. ⊎_elim (λ b. g.there r b) (λ b. ((of_group r).0 b).0) (from r a);
      all = λ o those are many early r a.
          let k = (are.1 r).0 a in
          ⊎_elim
          (λ l. kept r (g.all o those are many (λ s b. subst (λ (v : ℕ). v < s.source.0) k.1 (l s b)) r a))
          (λ l. ⊎_elim
          (λ b.
          let e = is_group o those are (sym k.1 ∙ same r b) in
          pushed (subst (λ (v : List Row). 8 < length v) e many) r (subst (λ (v : List Row). Among v r) e a))
          (λ b. absurd (let m = early r (subst (λ (v : List Row). Among v r) (sym back) b) in let f = k.1 in omega arith))
          (among_either left n r l))
          (g.each r k.0);
    }

  pub many_passed : (next sorted : List Row) → ((r : Row) → Among sorted r ↔ Among group r) → next ≡ busy ++ sorted → HasPassed rows later next
  many_passed next sorted same e = next_passed next
      (λ r a. subst (λ (v : List Row). Among v r) (sym e) (append_first busy sorted r a))
      (λ many r a. subst (λ (v : List Row). Among v r) (sym e) (append_second busy sorted r ((same r).1 a)))
      (λ r a. ⊎_elim (λ b. inl b) (λ b. inr ((same r).0 b)) (among_append busy sorted r (subst (λ (v : List Row). Among v r) e a)))

  pub few_passed : length group ≤ 8 → HasPassed rows later busy
  few_passed few = next_passed busy (λ r a. a) (λ many r a. absurd (omega arith)) (λ r a. inl a)

pub all_passed : (rows left busy : List Row) → None ≡ slice_get left 0 → HasPassed rows left busy → HasBusy rows busy
all_passed rows left busy none g = λ o group are many. g.all o group are many (λ s a. absurd (nothing left none s a))
  where
    nothing : (xs : List Row) → None ≡ slice_get xs 0 → (s : Row) → Among xs s → ⊥
    nothing [] e s a = a
    nothing (x ∷ xs) e s a = let no : ⊥ = cc in no

-- rows in order, and the timetable of the busy ones among them
pub composed_of : (second busy : List Row) (legs : List Leg) → Ordered RowBefore second → ((r : Row) → Among second r → IsWellFormed r.band) → ((r : Row) → Among busy r → Among second r) → HasBusy second busy → IsTimetable legs
    → ((x y : Point) → LegsHold legs x y ↔ RowsHold busy x y) → AreComposed second legs
composed_of second busy legs order formed there all table holds = record {
  order = order;
  formed = formed;
  table = table;
  there = λ x y h. let k = (holds x y).0 h in (k.0, there k.0 k.1, k.2);
  all = λ o group are many some x y h. (holds x y).1 (h.0, all o group are many h.0 h.1, h.2);
}

-- rows in order, and no timetable
pub none_composed : (second : List Row) (legs : List Leg) → legs ≡ [] → Ordered RowBefore second → ((r : Row) → Among second r → IsWellFormed r.band) → AreComposed second legs
none_composed second legs none order formed = subst (λ (v : List Leg). AreComposed second v) (sym none) (record {
  order = order;
  formed = formed;
  table = record { order = tt; reach = none_reach; formed = λ s a. absurd a };
  there = λ x y h. absurd (h.1);
  all = λ o group are many some x y h. absurd (omega arith);
})
