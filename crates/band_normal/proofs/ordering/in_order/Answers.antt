use Rattle.std.proofs.Common.{◌≡◌, ◌+◌, ℤ, List, get_or, true, false, Some, subst, rules, arith}
use Rattle.std.specs.List.Sorted.{IsSortedByKey}
use Rattle.std.specs.Ordering.{int_cmp, is_lt, is_le, is_some_and, ordering_then, partial_ordering_then}
use Rattle.std.proofs.lemmas.Int.{ints}
use Rattle.std.proofs.lemmas.List.Sorted.{IsPermutation-refl}
use Rattle.std.proofs.lemmas.Fn.{always_returns_same}
use Rattle.band_normal.specs.declared.band.Band.{Band}
use Rattle.band_normal.specs.Strips.{Holds}
use Rattle.band_normal.specs.Rows.{first_low_of}
use Rattle.band_normal.proofs.Sorting.{sorted_normal}
use Rattle.band_normal.proofs.ordering.in_order.Goals as goal

at_most_pair : (a b c d : ℤ) → true ≡ is_some_and is_le (partial_ordering_then (Some (int_cmp a b)) (Some (int_cmp c d))) → is_lt (ordering_then (int_cmp b a) (int_cmp d c)) ≡ false
at_most_pair a b c d e = grind (arith, ints)

pub returns : goal.returns
returns g c =
    let up = c.in_ok-sort_by_key.ensures.sorted (λ (b : Band). (b.from, first_low_of b)) (always_returns_same _ _ _ (λ a r q k. search rules)) in
    sorted_normal (Holds g.held) _ _ c.requires c.sort_by_key.ensures.permutation up

pub returns-then-is_sorted_by_key : goal.returns-then-is_sorted_by_key
returns-then-is_sorted_by_key g c =
    let up = c.if-is_sorted_by_key.ensures.cases (λ (b : Band). (b.from, first_low_of b)) (always_returns_same _ _ _ (λ a r q k. search rules)) in
    let order : IsSortedByKey (λ (b : Band). (b.from, first_low_of b)) (λ (x : ℤ × ℤ) (y : ℤ × ℤ). ordering_then (int_cmp x.0 y.0) (int_cmp x.1 y.1)) c.deref.result.now =
    λ k d le lt. at_most_pair (get_or c.deref.result.now k d).from (get_or c.deref.result.now (k + 1) d).from (first_low_of (get_or c.deref.result.now k d)) (first_low_of (get_or c.deref.result.now (k + 1) d)) (up k d lt) in
    sorted_normal (Holds g.held) _ _ c.requires (IsPermutation-refl c.args.rows.items)
    (subst (λ (v : List Band). IsSortedByKey (λ (b : Band). (b.from, first_low_of b)) (λ (x : ℤ × ℤ) (y : ℤ × ℤ). ordering_then (int_cmp x.0 y.0) (int_cmp x.1 y.1)) v) c.deref.ensures.value order)
