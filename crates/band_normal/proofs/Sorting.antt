-- All rows, sorted, are the normal list.
use Rattle.std.proofs.Common.{◌≡◌, ◌↔◌, ◌⊎◌, inl, inr, ⊎_elim, ℕ, ◌+◌, ◌<◌, ℤ, pos, negsuc, ◌+ℤ◌, ◌-ℤ◌, ◌≤ℤ◌, ◌<ℤ◌, List, ◌++◌, length, get_or, Bool, true, false, refl, sym, ◌∙◌, ap, subst, arith, w64, true≢false}
use Rattle.std.proofs.lemmas.Int.{ints, by_lt_z}
use Rattle.std.specs.Int.{saturate_signed}
use Rattle.std.specs.List.{IsDistinct}
use Rattle.std.specs.List.Sorted.{IsPermutation, IsSortedByKey}
use Rattle.std.specs.Ordering.{int_cmp, is_lt, ordering_then}
use Rattle.std.proofs.lemmas.Map.Keys.{apart_from_distinct, IsDistinct-from_apart, IsDistinct-IsPermutation}
use Rattle.zone_core.specs.Zone.{Within, moment_reach}
use Rattle.itpg_base.specs.Decided.{Decided}
use Rattle.itpg_base.proofs.Searches.{both, same_moment}
use Rattle.band_normal.specs.declared.band.End.{End}
use Rattle.band_normal.specs.declared.band.End.TheVariants.{Fixed, Moving}
use Rattle.band_normal.specs.declared.band.Band.{Band}
use Rattle.band_normal.specs.declared.strips.Stretch.{Stretch}
use Rattle.itpg_base.specs.Lists.{Among}
use Rattle.band_normal.specs.Bands.{end_at, InBand, IsWellFormed}
use Rattle.band_normal.specs.Normal.{IsRun, IsRow, IsBefore, Normal}
use Rattle.band_normal.specs.Strips.{Holds}
use Rattle.band_normal.specs.Rows.{IsRowTo, AreApart, AreRowsTo, AreAll, CanOrder, clamped_at, first_low_of, CanSweep}
use Rattle.itpg_base.proofs.Lists.{among_append, among_at, permutation_among, among_permutation, ordered_from_neighbours, ordered_either, ordered_by_place}
use Rattle.band_normal.proofs.WellFormed.{row-well_formed, held-in_range}

-- in range a number isn't clamped
clamped_is : (z : ℤ) → Within moment_reach z → saturate_signed w64 z ≡ z
clamped_is (pos n) w = ap pos (omega (arith, ints))
clamped_is (negsuc n) w = ap negsuc (omega (arith, ints))

pub clamped-end : (e : End) (t : ℤ) → Within moment_reach (end_at e t) → clamped_at e t ≡ end_at e t
clamped-end (Fixed n) t w = refl
clamped-end (Moving k) t w = clamped_is (t +ℤ k) w

pub first_low-is : (b : Band) → IsWellFormed b → first_low_of b ≡ end_at b.low b.from
first_low-is b w = clamped-end b.low b.from (w.low b.from (omega (arith, ints)) w.span)

-- both begin at one departure, with one low end
abbrev pub BeginAlike : Band → Band → Type 0
BeginAlike x y = (x.from ≡ y.from) × (first_low_of x ≡ first_low_of y)

pub same : (x y : Band) → Decided (BeginAlike x y)
same x y = both (same_moment x.from y.from) (same_moment (first_low_of x) (first_low_of y))

abbrev pub test : {P : Type 0} → Decided P → Bool
test (inl p) = true
test (inr n) = false

abbrev pub alike : Band → Band → Bool
alike x y = test (same x y)

pub test_fails : {P : Type 0} (d : Decided P) → test d ≡ false → P → ⊥
test_fails (inl q) e p = true≢false e
test_fails (inr n) e p = n p

pub fails_test : {P : Type 0} (d : Decided P) → (P → ⊥) → test d ≡ false
fails_test (inl p) n = absurd (n p)
fails_test (inr m) n = refl

test_same : {P Q : Type 0} (d : Decided P) (e : Decided Q) → (P → Q) → (Q → P) → test d ≡ test e
test_same (inl p) (inl q) f g = refl
test_same (inl p) (inr n) f g = absurd (n (f p))
test_same (inr n) (inl q) f g = absurd (n (g q))
test_same (inr n) (inr m) f g = refl

pub alike-flip : (x y : Band) → alike x y ≡ alike y x
alike-flip x y = test_same (same x y) (same y x) (λ b. (sym b.0, sym b.1)) (λ b. (sym b.0, sym b.1))

less_is : (a b : ℤ) → a <ℤ b → is_lt (int_cmp a b) ≡ true
less_is a b h = grind (arith, ints)

less_first : (a b c d : ℤ) → a <ℤ b → is_lt (ordering_then (int_cmp a b) (int_cmp c d)) ≡ true
less_first a b c d h = grind (arith, ints)

equal_first : (a c d : ℤ) → is_lt (ordering_then (int_cmp a a) (int_cmp c d)) ≡ is_lt (int_cmp c d)
equal_first a c d = grind (arith, ints)

-- by the first number, then by the second
pub not_after : (a b c d : ℤ) → is_lt (ordering_then (int_cmp a b) (int_cmp c d)) ≡ false → (b <ℤ a) ⊎ ((b ≡ a) × (d ≤ℤ c))
not_after a b c d h = by_lt_z b a (λ lt. inl lt) (λ le. by_lt_z a b
    (λ lt. absurd (true≢false (sym (less_first a b c d lt) ∙ h)))
    (λ ge. let e : b ≡ a = omega (arith, ints) in
    inr (
      e,
      by_lt_z c d
          (λ lt. absurd (true≢false (sym (less_is c d lt) ∙ sym (equal_first a c d) ∙ subst (λ (v : ℤ). is_lt (ordering_then (int_cmp a v) (int_cmp c d)) ≡ false) e h)))
          (λ le. le),
    )))

pub before-trans : (x y z : Band) → IsBefore x y → IsBefore y z → IsBefore x z
before-trans x y z (inl a) (inl b) = inl (omega (arith, ints))
before-trans x y z (inl a) (inr (e, b)) = inl (omega (arith, ints))
before-trans x y z (inr (e, a)) (inl b) = inl (omega (arith, ints))
before-trans x y z (inr (e, a)) (inr (f, b)) = inr (e ∙ f, omega (arith, ints))

-- a row holds its low end at its first departure
pub row_start : (R : ℤ → ℤ → Type 0) (b : Band) → IsRow R b → InBand b b.from (end_at b.low b.from)
row_start R b r = record { from = omega (arith, ints); to = r.span; low = omega (arith, ints); high = (r.runs b.from (omega (arith, ints)) r.span).some }

module _ (R : ℤ → ℤ → Type 0) (xs ys : List Band) (can : CanOrder R xs) (p : IsPermutation xs ys) where
  all : AreAll R xs
  all = can.all

  well : (b : Band) → Among xs b → IsWellFormed b
  well b i = row-well_formed R b can.in_range (all.each b i)

  alike_share : (x y : Band) → Among xs x → Among xs y → BeginAlike x y → AreApart x y → ⊥
  alike_share x y i j b apart =
      let e : end_at x.low x.from ≡ end_at y.low y.from = sym (first_low-is x (well x i)) ∙ b.1 ∙ first_low-is y (well y j) in
      apart y.from (end_at y.low y.from)
      (subst (λ (v : ℤ). InBand x v (end_at y.low y.from)) b.0 (subst (λ (v : ℤ). InBand x x.from v) e (row_start R x (all.each x i))))
      (row_start R y (all.each y j))

  distinct : IsDistinct alike ys
  distinct = IsDistinct-IsPermutation alike alike-flip xs ys p
      (IsDistinct-from_apart alike xs (λ i j d lt l. fails_test (same (get_or xs i d) (get_or xs j d))
      (λ b. alike_share (get_or xs i d) (get_or xs j d) (among_at xs i d (omega arith)) (among_at xs j d l) b (ordered_by_place AreApart xs all.apart i j d lt l))))

  pub sorted_normal : IsSortedByKey (λ (b : Band). (b.from, first_low_of b)) (λ (x : ℤ × ℤ) (y : ℤ × ℤ). ordering_then (int_cmp x.0 y.0) (int_cmp x.1 y.1)) ys → Normal R ys
  sorted_normal up = record {
    whole = λ t u r. let w = all.whole t u r in (w.0, among_permutation xs ys p w.0 w.1, w.2);
    once = λ x y t u i j q r. ⊎_elim (λ e. e) (λ g. absurd (⊎_elim (λ a. a t u q r) (λ a. a t u r q) g))
        (ordered_either AreApart xs all.apart x y (permutation_among xs ys p x i) (permutation_among xs ys p y j));
    each = λ b i. all.each b (permutation_among xs ys p b i);
    order = ordered_from_neighbours IsBefore before-trans ys next;
  }
    where
      next : (k : ℕ) (d : Band) → k + 1 < length ys → IsBefore (get_or ys k d) (get_or ys (k + 1) d)
      next k d lt =
          let x = get_or ys k d in let y = get_or ys (k + 1) d in
          let wx = first_low-is (get_or ys k d) (well (get_or ys k d) (permutation_among xs ys p (get_or ys k d) (among_at ys k d (omega arith)))) in
          let wy = first_low-is (get_or ys (k + 1) d) (well (get_or ys (k + 1) d) (permutation_among xs ys p (get_or ys (k + 1) d) (among_at ys (k + 1) d lt))) in
          let apart = test_fails (same (get_or ys k d) (get_or ys (k + 1) d)) (apart_from_distinct alike ys k (k + 1) d distinct (omega arith) lt) in
          ⊎_elim (λ a. inl a)
          (λ (a : ((get_or ys k d).from ≡ (get_or ys (k + 1) d).from) × (first_low_of (get_or ys k d) ≤ℤ first_low_of (get_or ys (k + 1) d))).
          let le = a.1 in
          inr (
            a.0,
            by_lt_z (first_low_of (get_or ys k d)) (first_low_of (get_or ys (k + 1) d))
                (λ less. omega (arith, ints))
                (λ ge. absurd (apart (a.0, omega (arith, ints)))),
          ))
          (not_after _ _ _ _ (up k d (omega arith) lt))

-- rows up to the last departure of all are all rows
pub rows_all : (R : ℤ → ℤ → Type 0) (last : ℤ) (complete reaching : List Band) → ((t u : ℤ) → R t u → t ≤ℤ last) → AreRowsTo R (last +ℤ pos 1) complete reaching → AreAll R (complete ++ reaching)
rows_all R last complete reaching ends h = record {
  each = λ b i. ⊎_elim (λ j. (h.stop b j).0) (λ j. reaches b (h.go_on b j)) (among_append complete reaching b i);
  whole = λ t u r. h.whole t u r (let le = ends t u r in omega (arith, ints));
  apart = h.apart;
}
  where
    reaches : (b : Band) → IsRowTo R ((last +ℤ pos 1) -ℤ pos 1) b → IsRow R b
    reaches b w = record {
      span = w.strip.span;
      runs = w.strip.runs;
      single_low = w.single_low;
      single_high = w.single_high;
      stops = λ l u run sl sh. absurd (let le = ends (b.to +ℤ pos 1) l (run.each l (omega (arith, ints)) run.some) in let to = w.to in omega (arith, ints));
    }

pub swept_all : (held bands : List Band) (s : Stretch) (complete reaching : List Band) → CanSweep held bands s → AreRowsTo (Holds held) (s.to +ℤ pos 1) complete reaching → CanOrder (Holds held) (complete ++ reaching)
swept_all held bands s complete reaching c h =
    let P : List Band → Type 0 = λ v. AreRowsTo (Holds v) (s.to +ℤ pos 1) complete reaching in
    let Q : List Band → Type 0 = λ v. CanOrder (Holds v) (complete ++ reaching) in
    subst Q (sym c.same) (record {
      in_range = held-in_range bands c.well_formed;
      all = rows_all (Holds bands) s.to complete reaching (λ t u w. let a = c.covers.to w.0 w.1 in let b = w.2.to in omega (arith, ints)) (subst P c.same h);
    })

pub run_like : (R S : ℤ → ℤ → Type 0) → ((t u : ℤ) → R t u ↔ S t u) → (t l h : ℤ) → IsRun R t l h → IsRun S t l h
run_like R S f t l h r = record { some = r.some; each = λ u a b. (f t u).0 (r.each u a b); below = λ s. r.below ((f t (l -ℤ pos 1)).1 s); above = λ s. r.above ((f t (h +ℤ pos 1)).1 s) }

pub row_like : (R S : ℤ → ℤ → Type 0) (b : Band) → ((t u : ℤ) → R t u ↔ S t u) → IsRow R b → IsRow S b
row_like R S b f r = record {
  span = r.span;
  runs = λ t p q. run_like R S f t _ _ (r.runs t p q);
  single_low = r.single_low;
  single_high = r.single_high;
  stops = λ l h run. r.stops l h (run_like S R (λ t u. ((f t u).1, (f t u).0)) _ l h run);
}

-- relations that hold the same have the same normal list
pub normal_like : (R S : ℤ → ℤ → Type 0) (rows : List Band) → ((t u : ℤ) → R t u ↔ S t u) → Normal R rows → Normal S rows
normal_like R S rows f n = record {
  whole = λ t u s. n.whole t u ((f t u).1 s);
  once = n.once;
  each = λ b i. row_like R S b f (n.each b i);
  order = n.order;
}
