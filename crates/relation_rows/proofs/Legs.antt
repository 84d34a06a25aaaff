-- Legs that are made of rows in order, one after the other.
use Rattle.std.proofs.Common.{◌≡◌, ◌↔◌, ◌⊎◌, inl, inr, ℕ, ◌+◌, ◌<◌, ◌≤◌, ℤ, ◌≤ℤ◌, List, [], ◌∷◌, length, map, get_or, Some, refl, sym, ◌∙◌, ap, subst, arith, true, false, true≢false}
use Rattle.std.proofs.lemmas.Int.{ints}
use Rattle.std.specs.Ordering.{nat_cmp, int_cmp, is_lt, is_le, is_some_and, ordering_then, partial_ordering_then}
use Rattle.std.specs.declared.cmp.Ordering.{Ordering}
use Rattle.std.specs.declared.cmp.Ordering.TheVariants.{Less, Equal, Greater}
use Rattle.std.specs.List.{AllAdjacentBelow}
use Rattle.std.specs.List.Sorted.{IsPermutation}
use Rattle.itpg_base.specs.Points.{Point}
use Rattle.itpg_base.specs.Lists.{Among, Ordered}
use Rattle.band_normal.specs.Bands.{IsWellFormed}
use Rattle.band_normal.proofs.Activity.{not_below}
use Rattle.itpg_base.proofs.Lists.{ordered_from_neighbours, permutation_among, among_permutation}
use Rattle.relation_rows.specs.declared.rows.Row.{Row}
use Rattle.relation_rows.specs.declared.timetable.Leg.{Leg}
use Rattle.relation_rows.specs.Rows.{InRow, RowsHold}
use Rattle.relation_rows.specs.Timetables.{DepartsUpTo, LegUpTo, LegsHold, AreReached, IsTimetable}
use Rattle.relation_rows.proofs.Objects.{Compared, compared, less, equal, greater}

abbrev pub row_of : Leg → Row
row_of s = s.row

pub row_among : (legs : List Leg) (s : Leg) → Among legs s → Among (map row_of legs) s.row
row_among [] s a = absurd a
row_among (t ∷ ts) s (inl e) = inl (ap row_of e)
row_among (t ∷ ts) s (inr a) = inr (row_among ts s a)

pub among_row : (legs : List Leg) (r : Row) → Among (map row_of legs) r → (s : Leg) × Among legs s × (s.row ≡ r)
among_row [] r a = absurd a
among_row (t ∷ ts) r (inl e) = (t, inl refl, e)
among_row (t ∷ ts) r (inr a) = let w = among_row ts r a in (w.0, inr w.1, w.2)

-- legs are in order as their rows are
pub legs_ordered : (legs : List Leg) → Ordered DepartsUpTo (map row_of legs) → Ordered LegUpTo legs
legs_ordered [] o = tt
legs_ordered (s ∷ ss) o = (λ t a. o.0 t.row (row_among ss t a), legs_ordered ss o.1)

-- rows that are sorted by source and first departure
pub up_to : (a b : ℕ) (c d : ℤ) → is_lt (ordering_then (nat_cmp a b) (int_cmp c d)) ≡ false → (b < a) ⊎ ((b ≡ a) × (d ≤ℤ c))
up_to a b c d h = first (compared a b) h
  where
    lt_of : (x : Ordering) (e : nat_cmp a b ≡ x) → is_lt (ordering_then (nat_cmp a b) (int_cmp c d)) ≡ false → is_lt (ordering_then x (int_cmp c d)) ≡ false
    lt_of x e k = subst (λ (v : Ordering). is_lt (ordering_then v (int_cmp c d)) ≡ false) e k

    first : Compared a b → is_lt (ordering_then (nat_cmp a b) (int_cmp c d)) ≡ false → (b < a) ⊎ ((b ≡ a) × (d ≤ℤ c))
    first (less l e) k = absurd (true≢false (lt_of Less e k))
    first (equal l e) k = inr (sym l, not_below d c (lt_of Equal e k))
    first (greater l e) k = inl l

departs_trans : (r s t : Row) → DepartsUpTo r s → DepartsUpTo s t → DepartsUpTo r t
departs_trans r s t (inl a) (inl b) = inl (omega arith)
departs_trans r s t (inl a) (inr (e, b)) = inl (omega arith)
departs_trans r s t (inr (e, a)) (inl b) = inl (omega arith)
departs_trans r s t (inr (e, a)) (inr (f, b)) = inr (e ∙ f, omega (arith, ints))

pub sorted_rows : (rows : List Row)
    → ((k : ℕ) (d : Row) → 0 ≤ k → k + 1 < length rows → is_lt (ordering_then (nat_cmp (get_or rows (k + 1) d).source.0 (get_or rows k d).source.0) (int_cmp (get_or rows (k + 1) d).band.from (get_or rows k d).band.from)) ≡ false)
    → Ordered DepartsUpTo rows
sorted_rows rows up = ordered_from_neighbours DepartsUpTo departs_trans rows (λ k d lt. up_to _ _ _ _ (up k d (omega arith) lt))

-- rows that a look at neighbours finds in that order
pub found_rows : (rows : List Row)
    → AllAdjacentBelow (λ (r s : Row). true ≡ is_some_and is_le (partial_ordering_then (Some (nat_cmp r.source.0 s.source.0)) (Some (int_cmp r.band.from s.band.from)))) rows (length rows) → Ordered DepartsUpTo rows
found_rows rows h = ordered_from_neighbours DepartsUpTo departs_trans rows (λ k d lt. le_up_to _ _ _ _ (h k d lt))
  where
    not_above : (a b : ℤ) → true ≡ is_le (int_cmp a b) → a ≤ℤ b
    not_above a b e = grind (arith, ints)

    le_up_to : (a b : ℕ) (c d : ℤ) → true ≡ is_some_and is_le (partial_ordering_then (Some (nat_cmp a b)) (Some (int_cmp c d))) → (a < b) ⊎ ((a ≡ b) × (c ≤ℤ d))
    le_up_to a b c d h = first (compared a b)
      where
        le_of : (x : Ordering) (e : nat_cmp a b ≡ x) → true ≡ is_some_and is_le (partial_ordering_then (Some x) (Some (int_cmp c d)))
        le_of x e = subst (λ (v : Ordering). true ≡ is_some_and is_le (partial_ordering_then (Some v) (Some (int_cmp c d)))) e h

        first : Compared a b → (a < b) ⊎ ((a ≡ b) × (c ≤ℤ d))
        first (less l e) = inl l
        first (equal l e) = inr (l, not_above c d (le_of Equal e))
        first (greater l e) = absurd (true≢false (le_of Greater e))

module _ (rows sorted : List Row) (p : IsPermutation rows sorted) (legs : List Leg) (are : map row_of legs ≡ sorted) where
  pub leg_row : (s : Leg) → Among legs s → Among rows s.row
  leg_row s a = permutation_among rows sorted p s.row (subst (λ (v : List Row). Among v s.row) are (row_among legs s a))

  pub legs_hold : (x y : Point) → LegsHold legs x y ↔ RowsHold rows x y
  legs_hold x y = (
    λ h. ((h.0).row, leg_row h.0 h.1, h.2),
    λ h.
        let w = among_row legs h.0 (subst (λ (v : List Row). Among v h.0) (sym are) (among_permutation rows sorted p h.0 h.1)) in
        (w.0, w.1, subst (λ (v : Row). InRow v x y) (sym w.2) h.2),
  )

  pub table_of : Ordered LegUpTo legs → ((depth : ℕ) → AreReached depth legs) → ((r : Row) → Among rows r → IsWellFormed r.band) → IsTimetable legs
  table_of order reach formed = record { order = order; reach = reach; formed = λ s a. formed s.row (leg_row s a) }
