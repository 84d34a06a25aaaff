-- Rows sorted by their starts or ends, and what is left of them from a place on.
use Rattle.std.proofs.Common.{◌≡◌, inl, inr, ℕ, ◌-◌, ◌≤◌, ℤ, List, length, get_or, take, drop, sym, subst, arith, true, false, Bool}
use Rattle.std.specs.Ordering.{int_cmp}
use Rattle.std.specs.List.Sorted.{IsPartitionedBy, IsPartitionPoint, IsSortedByKey}
use Rattle.std.proofs.lemmas.Int.{ints}
use Rattle.std.proofs.lemmas.Bool.Decides.{eqb_tells}
use Rattle.std.proofs.lemmas.List.{take_all, length-drop}
use Rattle.itpg_base.specs.Lists.{Ordered}
use Rattle.itpg_base.proofs.Lists.{ordered_by_place, ordered_from_neighbours}
use Rattle.band_normal.proofs.Activity.{not_below}
use Rattle.relation_rows.specs.declared.times.OneRow.{OneRow}
use Rattle.relation_rows.proofs.Partitions.{among_before, among_behind}
use Rattle.arrivals.specs.Sweeping.{StartsUpTo, StopsUpTo, begins_at, ends_by, IsRest}
use Rattle.arrivals.proofs.Sizes.{is_le, le_true}

pub rest_from : (so : OneRow → Bool) (rows : List OneRow) (n : ℕ) → n ≤ length rows → IsPartitionPoint (λ (r : OneRow). so r ≡ true) (λ (r : OneRow). so r ≡ false) rows n → IsRest so rows (take (length rows - n) (drop n rows))
rest_from so rows n bound point = record {
  place = n;
  is = take_all (length rows - n) (drop n rows) (omega (arith, length-drop n rows));
  before = among_before (λ (r : OneRow). so r ≡ true) rows n bound point.0;
  behind = among_behind (λ (r : OneRow). so r ≡ false) rows n bound point.1;
}

partitioned : (so : OneRow → Bool) (Up : OneRow → OneRow → Type 0) → ((r s : OneRow) → Up r s → so s ≡ true → so r ≡ true) → (rows : List OneRow) → Ordered Up rows → IsPartitionedBy so rows
partitioned so Up f rows order i j d le lt e = elim (eqb_tells i j) [
  | inl s ↦ subst (λ (v : ℕ). so (get_or rows v d) ≡ true) (sym s.1) e
  | inr n ↦ f (get_or rows i d) (get_or rows j d) (ordered_by_place Up rows order i j d (let ne = n.1 in omega arith) lt) e
]

pub begun_partitioned : (t : ℤ) (rows : List OneRow) → Ordered StartsUpTo rows → IsPartitionedBy (λ (r : OneRow). begins_at r t) rows
begun_partitioned t rows order = partitioned (λ (r : OneRow). begins_at r t) StartsUpTo (λ r s up e. le_true r.span.from t (let l = is_le s.span.from t e in omega (arith, ints))) rows order

pub ended_partitioned : (t : ℤ) (rows : List OneRow) → Ordered StopsUpTo rows → IsPartitionedBy (λ (r : OneRow). ends_by r t) rows
ended_partitioned t rows order = partitioned (λ (r : OneRow). ends_by r t) StopsUpTo (λ r s up e. le_true r.span.to t (let l = is_le s.span.to t e in omega (arith, ints))) rows order

pub starts_sorted : (rows : List OneRow) → IsSortedByKey (λ (r : OneRow). r.span.from) int_cmp rows → Ordered StartsUpTo rows
starts_sorted rows h = ordered_from_neighbours StartsUpTo (λ x y z a b. omega (arith, ints)) rows (λ k d l. not_below _ _ (h k d (omega arith) l))

pub stops_sorted : (rows : List OneRow) → IsSortedByKey (λ (r : OneRow). r.span.to) int_cmp rows → Ordered StopsUpTo rows
stops_sorted rows h = ordered_from_neighbours StopsUpTo (λ x y z a b. omega (arith, ints)) rows (λ k d l. not_below _ _ (h k d (omega arith) l))
