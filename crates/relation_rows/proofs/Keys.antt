-- The first items of a list in order that have one source and one target, and the rows in order that do.
use Rattle.std.proofs.Common.{◌≡◌, ◌⊎◌, inl, inr, ⊎_elim, ℕ, ◌<◌, ◌≤◌, List, length, get_or, take, drop, Some, refl, sym, ◌∙◌, ap, subst, arith, Bool, true, false, true≢false}
use Rattle.std.specs.Prelude.{slice_get}
use Rattle.std.specs.List.Sorted.{IsPartitionedBy, IsPartitionPoint}
use Rattle.std.proofs.lemmas.Bool.Decides.{eqb_tells}
use Rattle.std.proofs.lemmas.List.{get_or_default}
use Rattle.std.proofs.lemmas.Option.{slice_get_within, get_or_from_slice_get}
use Rattle.std.proofs.lemmas.Bool.Decides.{Decides-ltb}
use Rattle.std.specs.Prelude.{◌↔◌, ◌-◌}
use Rattle.itpg_base.specs.Lists.{Among, Ordered}
use Rattle.itpg_base.proofs.Lists.{among_at, ordered_by_place}
use Rattle.relation_rows.specs.declared.rows.Row.{Row}
use Rattle.relation_rows.specs.Rows.{KeyBefore, RowBefore, HasKey}
use Rattle.relation_rows.specs.Searching.{comes_before, has_key}
use Rattle.relation_rows.specs.Relations.{Item}
use Rattle.relation_rows.specs.Gathering.{HaveOneKey, have_one_key, ItemUpTo}
use Rattle.relation_rows.proofs.Listed.{key_apart, keys_apart, key_tells}
use Rattle.relation_rows.proofs.Partitions.{among_before, among_behind, rest_among, rest_ordered, first_before, front_ordered}
use Rattle.relation_rows.proofs.SearchLemmas.{early_partitioned, fits_partitioned, fitting_rows}

one_key_is : (i j : Item) → have_one_key i j ≡ true → HaveOneKey j i
one_key_is i j e = ⊎_elim (λ k. (sym k.1, sym k.2)) (λ k. absurd (true≢false (sym e ∙ k.0))) (key_tells i.0.0 i.1.0 j.0.0 j.1.0)

is_one_key : (i j : Item) → HaveOneKey i j → have_one_key i j ≡ true
is_one_key i j h = ⊎_elim (λ k. k.0) (λ k. absurd (k.1 h.0 h.1)) (key_tells i.0.0 i.1.0 j.0.0 j.1.0)

other_key : (i j : Item) → have_one_key i j ≡ false → HaveOneKey j i → ⊥
other_key i j e h = true≢false (sym (is_one_key i j (sym h.0, sym h.1)) ∙ e)

module _ (items : List Item) (first : Item) (order : Ordered ItemUpTo items) (is : slice_get items 0 ≡ Some first) where
  up_from_first : (i : Item) → Among items i → ItemUpTo first i
  up_from_first i a = ⊎_elim (λ (e : first ≡ i). inr (ap (λ (v : Item). v.0.0) e, ap (λ (v : Item). v.1.0) e)) (λ b. b) (first_before ItemUpTo items first order is i a)

  pub one_key_partitioned : IsPartitionedBy (λ (i : Item). have_one_key i first) items
  one_key_partitioned i j d le lt e = elim (eqb_tells i j) [
    | inl s ↦ subst (λ (v : ℕ). have_one_key (get_or items v d) first ≡ true) (sym s.1) e
    | inr n ↦ (
        let here = one_key_is (get_or items j d) first e in
        let up = ordered_by_place ItemUpTo items order i j d (let ne = n.1 in omega arith) lt in
        is_one_key (get_or items i d) first (⊎_elim
        (λ b. absurd (⊎_elim
        (λ a. keys_apart _ _ _ _ a (subst (λ (v : ℕ). KeyBefore (get_or items i d).0.0 (get_or items i d).1.0 v first.1.0) (sym here.0) (subst (λ (v : ℕ). KeyBefore (get_or items i d).0.0 (get_or items i d).1.0 (get_or items j d).0.0 v) (sym here.1) b)))
        (λ k. key_apart _ _ _ _ b (sym k.0 ∙ here.0) (sym k.1 ∙ here.1))
        (up_from_first (get_or items i d) (among_at items i d (omega arith)))))
        (λ k. (k.0 ∙ sym here.0, k.1 ∙ sym here.1)) up)
        )
  ]

  module _ (n : ℕ) (bound : n ≤ length items) (point : IsPartitionPoint (λ (i : Item). have_one_key i first ≡ true) (λ (i : Item). have_one_key i first ≡ false) items n) where
    pub count_same : (i : Item) → Among (take n items) i → HaveOneKey first i
    count_same i a = one_key_is i first (among_before (λ (j : Item). have_one_key j first ≡ true) items n bound point.0 i a)

    pub count_later : (i : Item) → Among (drop n items) i → KeyBefore first.0.0 first.1.0 i.0.0 i.1.0
    count_later i a = ⊎_elim (λ b. b) (λ k. absurd (other_key i first (among_behind (λ (j : Item). have_one_key j first ≡ false) items n bound point.1 i a) k)) (up_from_first i (rest_among items n i a))

    pub count_some : 0 < n
    count_some = elim (eqb_tells n 0) [
      | inl e ↦ absurd (
          let within = slice_get_within items 0 first is in
          let at = point.1 0 first (let z = e.1 in omega arith) within in
          other_key first first (subst (λ (v : Item). have_one_key v first ≡ false) (get_or_from_slice_get items 0 first first is) at) (refl, refl)
          )
      | inr e ↦ (let ne = e.1 in omega arith)
    ]

-- where the second item has another key, the first is alone
pub alone_point : (items : List Item) (first second : Item) → Ordered ItemUpTo items → slice_get items 0 ≡ Some first → 1 < length items → second ≡ get_or items 1 second → have_one_key second first ≡ false
    → IsPartitionPoint (λ (i : Item). have_one_key i first ≡ true) (λ (i : Item). have_one_key i first ≡ false) items 1
alone_point items first second order is more next other = (before, behind)
  where
    before : (k : ℕ) (d : Item) → 0 ≤ k → k < 1 → have_one_key (get_or items k d) first ≡ true
    before k d le lk =
        let zero_is : 0 ≡ k = omega arith in
        let here : get_or items k d ≡ first = subst (λ (v : ℕ). get_or items v d ≡ first) zero_is (get_or_from_slice_get items 0 first d is) in
        is_one_key (get_or items k d) first (subst (λ (v : Item). HaveOneKey v first) (sym here) (refl, refl))

    behind : (k : ℕ) (d : Item) → 1 ≤ k → k < length items → have_one_key (get_or items k d) first ≡ false
    behind k d le lk = by_test (have_one_key (get_or items k d) first) refl
      where
        by_test : (b : Bool) → have_one_key (get_or items k d) first ≡ b → have_one_key (get_or items k d) first ≡ false
        by_test false e = e
        by_test true e =
            let early = one_key_partitioned items first order is 1 k d le lk e in
            absurd (true≢false (sym (subst (λ (v : Item). have_one_key v first ≡ true) (get_or_default items 1 d second more ∙ sym next) early) ∙ other))

pub comes_is : (r : Row) (o p : ℕ) → comes_before r o p ≡ true → KeyBefore r.source.0 r.target.0 o p
comes_is r o p e = grind (arith, Decides-ltb)

pub is_coming : (r : Row) (o p : ℕ) → KeyBefore r.source.0 r.target.0 o p → comes_before r o p ≡ true
is_coming r o p (inl l) = grind (arith, Decides-ltb)
is_coming r o p (inr (e, l)) = grind (arith, Decides-ltb)

not_coming : (r : Row) (o p : ℕ) → comes_before r o p ≡ false → KeyBefore r.source.0 r.target.0 o p → ⊥
not_coming r o p e b = true≢false (sym (is_coming r o p b) ∙ e)

pub key_is : (r : Row) (o p : ℕ) → has_key r o p ≡ true → HasKey r o p
key_is r o p e = ⊎_elim (λ k. (k.1, k.2)) (λ k. absurd (true≢false (sym e ∙ k.0))) (key_tells r.source.0 r.target.0 o p)

pub is_key : (r : Row) (o p : ℕ) → HasKey r o p → has_key r o p ≡ true
is_key r o p h = ⊎_elim (λ k. k.0) (λ k. absurd (k.1 h.0 h.1)) (key_tells r.source.0 r.target.0 o p)

key_before_row : (r s : Row) → RowBefore r s → KeyBefore r.source.0 r.target.0 s.source.0 s.target.0 ⊎ ((r.source.0 ≡ s.source.0) × (r.target.0 ≡ s.target.0))
key_before_row r s (inl k) = inl k
key_before_row r s (inr (e, f, b)) = inr (e, f)

key_trans : (o p q r s t : ℕ) → KeyBefore o p q r → KeyBefore q r s t → KeyBefore o p s t
key_trans o p q r s t (inl a) (inl b) = inl (omega arith)
key_trans o p q r s t (inl a) (inr (e, b)) = inl (omega arith)
key_trans o p q r s t (inr (e, a)) (inl b) = inl (omega arith)
key_trans o p q r s t (inr (e, a)) (inr (f, b)) = inr (e ∙ f, omega arith)

pub coming_down : (o p : ℕ) (r s : Row) → RowBefore r s → comes_before s o p ≡ true → comes_before r o p ≡ true
coming_down o p r s b e =
    let k = comes_is s o p e in
    is_coming r o p (⊎_elim
    (λ l. key_trans _ _ _ _ _ _ l k)
    (λ l. subst (λ (v : ℕ). KeyBefore v r.target.0 o p) (sym l.0) (subst (λ (v : ℕ). KeyBefore s.source.0 v o p) (sym l.1) k))
    (key_before_row r s b))

key_down : (o p : ℕ) (r s : Row) → RowBefore r s → has_key s o p ≡ true → comes_before r o p ≡ false → has_key r o p ≡ true
key_down o p r s b e f =
    let here = key_is s o p e in
    is_key r o p (⊎_elim
    (λ k. absurd (not_coming r o p f (subst (λ (v : ℕ). KeyBefore r.source.0 r.target.0 v p) here.0 (subst (λ (v : ℕ). KeyBefore r.source.0 r.target.0 s.source.0 v) here.1 k))))
    (λ k. (k.0 ∙ here.0, k.1 ∙ here.1))
    (key_before_row r s b))

not_both : (o p : ℕ) (r : Row) → has_key r o p ≡ true → comes_before r o p ≡ true → ⊥
not_both o p r e f = let k = key_is r o p e in key_apart _ _ _ _ (comes_is r o p f) k.0 k.1

module _ (rows : List Row) (o p : ℕ) (order : Ordered RowBefore rows) where
  pub coming_partitioned : IsPartitionedBy (λ (r : Row). comes_before r o p) rows
  coming_partitioned = early_partitioned RowBefore (λ (r : Row). comes_before r o p) (λ (r : Row). has_key r o p) (coming_down o p) (key_down o p) (not_both o p) rows order

  module _ (n : ℕ) (bound : n ≤ length rows) (point : IsPartitionPoint (λ (r : Row). comes_before r o p ≡ true) (λ (r : Row). comes_before r o p ≡ false) rows n)
      (from : List Row) (is : from ≡ take (length rows - n) (drop n rows)) where
    pub key_partitioned : IsPartitionedBy (λ (r : Row). has_key r o p) from
    key_partitioned = fits_partitioned RowBefore (λ (r : Row). comes_before r o p) (λ (r : Row). has_key r o p) (coming_down o p) (key_down o p) (not_both o p) rows order n bound point from is

    pub key_rows : (m : ℕ) → m ≤ length from → IsPartitionPoint (λ (r : Row). has_key r o p ≡ true) (λ (r : Row). has_key r o p ≡ false) from m → (r : Row) → Among (take m from) r ↔ (Among rows r × HasKey r o p)
    key_rows m within split r =
        let k = fitting_rows RowBefore (λ (r : Row). comes_before r o p) (λ (r : Row). has_key r o p) (coming_down o p) (key_down o p) (not_both o p) rows order n bound point from is m within split r in
        (λ a. let h = k.0 a in (h.0, key_is r o p h.1), λ h. k.1 (h.0, is_key r o p h.1))

pub key_order : (rows : List Row) (n m : ℕ) → Ordered RowBefore rows → Ordered RowBefore (take m (take (length rows - n) (drop n rows)))
key_order rows n m o = front_ordered RowBefore (take (length rows - n) (drop n rows)) m (front_ordered RowBefore (drop n rows) (length rows - n) (rest_ordered RowBefore rows n o))
