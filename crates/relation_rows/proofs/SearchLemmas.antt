-- Two searches in a list in order: the first passes what comes early, the second takes what is looked for.
use Rattle.std.proofs.Common.{◌≡◌, ◌↔◌, ◌⊎◌, inl, inr, ⊎_elim, ℕ, ◌-◌, ◌<◌, ◌≤◌, List, length, get_or, take, drop, refl, sym, ◌∙◌, ap, subst, arith, Bool, true, false, true≢false}
use Rattle.std.specs.Prelude.{◌==◌, nat_lt}
use Rattle.std.specs.List.Sorted.{IsPartitionedBy, IsPartitionPoint}
use Rattle.std.proofs.lemmas.Bool.Decides.{eqb_tells, Decides-ltb}
use Rattle.std.proofs.lemmas.Bool.{cases_lt}
use Rattle.std.proofs.lemmas.List.{take_all, length-drop, length-take-le, get_or-take, get_or_default}
use Rattle.itpg_base.specs.Lists.{Among, Ordered}
use Rattle.itpg_base.proofs.Lists.{among_at, ordered_by_place}
use Rattle.relation_rows.proofs.Partitions.{among_before, among_behind, among_either, front_among, rest_among, rest_ordered}

-- a place before which the test holds, and at which it doesn't
pub place_between : {X : Type 0} (test : X → Bool) (xs : List X) (n : ℕ) (e : X) → IsPartitionedBy test xs → 0 < n → n < length xs → test (get_or xs (n - 1) e) ≡ true → test (get_or xs n e) ≡ false
    → IsPartitionPoint (λ (x : X). test x ≡ true) (λ (x : X). test x ≡ false) xs n
place_between {X} test xs n e parts some lt before here = (
  λ k d le lk. parts k (n - 1) d (omega arith) (omega arith) (subst (λ (v : X). test v ≡ true) (get_or_default xs (n - 1) e d (omega arith)) before),
  λ k d le lk. behind k d le lk (test (get_or xs k d)) refl,
)
  where
    behind : (k : ℕ) (d : X) → n ≤ k → k < length xs → (b : Bool) → test (get_or xs k d) ≡ b → test (get_or xs k d) ≡ false
    behind k d le lk false f = f
    behind k d le lk true f = absurd (true≢false (sym (parts n k d le lk f) ∙ subst (λ (v : X). test v ≡ false) (get_or_default xs n e d lt) here))

-- the point of what stands before a place at which the test fails is that of the list
module _ {X : Type 0} (test : X → Bool) (xs : List X) (parts : IsPartitionedBy test xs) (m : ℕ) (e : X) (lt : m < length xs) (fails : test (get_or xs m e) ≡ false) where
  fails_behind : (k : ℕ) (d : X) → m ≤ k → k < length xs → (b : Bool) → test (get_or xs k d) ≡ b → test (get_or xs k d) ≡ false
  fails_behind k d le lk false f = f
  fails_behind k d le lk true f = absurd (true≢false (sym (parts m k d le lk f) ∙ subst (λ (v : X). test v ≡ false) (get_or_default xs m e d lt) fails))

  in_front : (k : ℕ) (d : X) → k < m → test (get_or xs k d) ≡ test (get_or (take m xs) k d)
  in_front k d front = ap test (sym (get_or-take m xs k d front))

  pub front_partitioned : IsPartitionedBy test (take m xs)
  front_partitioned i j d le lj h =
      let size = length-take-le m xs (omega arith) in
      sym (in_front i d (omega arith)) ∙ parts i j d le (omega arith) (in_front j d (omega arith) ∙ h)

  pub point_before : (n : ℕ) → n ≤ length (take m xs) → IsPartitionPoint (λ (x : X). test x ≡ true) (λ (x : X). test x ≡ false) (take m xs) n
      → IsPartitionPoint (λ (x : X). test x ≡ true) (λ (x : X). test x ≡ false) xs n
  point_before n bound point =
      let size = length-take-le m xs (omega arith) in (
        λ k d low high. in_front k d (omega arith) ∙ point.0 k d low high,
        λ k d low high. ⊎_elim
            (λ front. in_front k d front ∙ point.1 k d low (omega arith))
            (λ behind. fails_behind k d behind high (test (get_or xs k d)) refl)
            (cases_lt k m),
      )

-- by any two tests: what comes before an early one is early, and before a fitting one early or fitting
module _ {X : Type 0} (Before : X → X → Type 0) (is_early fits : X → Bool)
    (early_down : (r s : X) → Before r s → is_early s ≡ true → is_early r ≡ true)
    (fits_down : (r s : X) → Before r s → fits s ≡ true → is_early r ≡ false → fits r ≡ true)
    (apart : (r : X) → fits r ≡ true → is_early r ≡ true → ⊥)
    (rows : List X) (order : Ordered Before rows) where
  pub early_partitioned : IsPartitionedBy is_early rows
  early_partitioned i j d le lt e = elim (eqb_tells i j) [
    | inl s ↦ subst (λ (v : ℕ). is_early (get_or rows v d) ≡ true) (sym s.1) e
    | inr n ↦ early_down (get_or rows i d) (get_or rows j d) (ordered_by_place Before rows order i j d (let ne = n.1 in omega arith) lt) e
  ]

  module _ (n : ℕ) (bound : n ≤ length rows) (point : IsPartitionPoint (λ (r : X). is_early r ≡ true) (λ (r : X). is_early r ≡ false) rows n)
      (from : List X) (is : from ≡ take (length rows - n) (drop n rows)) where
    from_is : from ≡ drop n rows
    from_is = is ∙ take_all (length rows - n) (drop n rows) (omega (arith, length-drop n rows))

    not_early : (r : X) → Among from r → is_early r ≡ false
    not_early r a = among_behind (λ (s : X). is_early s ≡ false) rows n bound point.1 r (subst (λ (v : List X). Among v r) from_is a)

    order_from : Ordered Before from
    order_from = subst (λ (v : List X). Ordered Before v) (sym from_is) (rest_ordered Before rows n order)

    pub fits_partitioned : IsPartitionedBy fits from
    fits_partitioned i j d le lt e = elim (eqb_tells i j) [
      | inl s ↦ subst (λ (v : ℕ). fits (get_or from v d) ≡ true) (sym s.1) e
      | inr m ↦ fits_down (get_or from i d) (get_or from j d) (ordered_by_place Before from order_from i j d (let ne = m.1 in omega arith) lt) e (not_early (get_or from i d) (among_at from i d (omega arith)))
    ]

    pub fitting_rows : (m : ℕ) → m ≤ length from → IsPartitionPoint (λ (r : X). fits r ≡ true) (λ (r : X). fits r ≡ false) from m → (r : X) → Among (take m from) r ↔ (Among rows r × (fits r ≡ true))
    fitting_rows m within split r = (
      λ a. (rest_among rows n r (subst (λ (v : List X). Among v r) from_is (front_among from m r a)), among_before (λ (s : X). fits s ≡ true) from m within split.0 r a),
      λ h. ⊎_elim
          (λ t. absurd (apart r h.1 (among_before (λ (s : X). is_early s ≡ true) rows n bound point.0 r t)))
          (λ d. ⊎_elim (λ f. f) (λ l. absurd (true≢false (sym h.1 ∙ among_behind (λ (s : X). fits s ≡ false) from m within split.1 r l)))
          (among_either from m r (subst (λ (v : List X). Among v r) (sym from_is) d)))
          (among_either rows n r h.0),
    )

-- by a number that never falls along the list
module _ {X : Type 0} (number : X → ℕ) (o : ℕ) where
  abbrev pub has_less : X → Bool
  has_less r = nat_lt (number r) o

  abbrev pub has_number : X → Bool
  has_number r = number r == o

  less_is : (r : X) → has_less r ≡ true → number r < o
  less_is r e = grind (arith, Decides-ltb)

  is_less : (r : X) → number r < o → has_less r ≡ true
  is_less r l = grind (arith, Decides-ltb)

  is_not_less : (r : X) → o ≤ number r → has_less r ≡ false
  is_not_less r l = grind (arith, Decides-ltb)

  -- what stands before the place has a lower number than what stands behind it
  pub less_apart : (rows : List X) (n : ℕ) → n ≤ length rows → IsPartitionPoint (λ (r : X). has_less r ≡ true) (λ (r : X). has_less r ≡ false) rows n
      → (r s : X) → Among (take n rows) r → Among (drop n rows) s → number r < number s
  less_apart rows n bound point r s a b =
      let before = less_is r (among_before (λ (x : X). has_less x ≡ true) rows n bound point.0 r a) in
      let late : ¬ (number s < o) = λ l. true≢false (sym (is_less s l) ∙ among_behind (λ (x : X). has_less x ≡ false) rows n bound point.1 s b) in
      omega arith

  number_is : (r : X) → has_number r ≡ true → number r ≡ o
  number_is r e = ⊎_elim (λ k. k.1) (λ k. absurd (true≢false (sym e ∙ k.0))) (eqb_tells (number r) o)

  is_number : (r : X) → number r ≡ o → has_number r ≡ true
  is_number r e = ⊎_elim (λ k. k.0) (λ k. absurd (k.1 e)) (eqb_tells (number r) o)

  not_number : (r : X) → (number r ≡ o → ⊥) → has_number r ≡ false
  not_number r n = ⊎_elim (λ k. absurd (n k.1)) (λ k. k.0) (eqb_tells (number r) o)

  -- a place before which the number is o, and at which it isn't
  pub number_ends : (rows : List X) (n : ℕ) (e : X) → IsPartitionedBy has_number rows → 0 < n → n < length rows → number (get_or rows (n - 1) e) ≡ o → (number (get_or rows n e) ≡ o → ⊥)
      → IsPartitionPoint (λ (r : X). has_number r ≡ true) (λ (r : X). has_number r ≡ false) rows n
  number_ends rows n e parts some lt before here = place_between has_number rows n e parts some lt (is_number (get_or rows (n - 1) e) before) (not_number (get_or rows n e) here)

  -- no number is o, if the first isn't
  pub number_nowhere : (rows : List X) (e : X) → IsPartitionedBy has_number rows → 0 < length rows → (number (get_or rows 0 e) ≡ o → ⊥)
      → IsPartitionPoint (λ (r : X). has_number r ≡ true) (λ (r : X). has_number r ≡ false) rows 0
  number_nowhere rows e parts some other = (λ k d le lk. absurd (omega (arith, lk)), λ k d le lk. by_test k d le lk (has_number (get_or rows k d)) refl)
    where
      by_test : (k : ℕ) (d : X) → 0 ≤ k → k < length rows → (b : Bool) → has_number (get_or rows k d) ≡ b → has_number (get_or rows k d) ≡ false
      by_test k d le lk false f = f
      by_test k d le lk true f = absurd (other (number_is (get_or rows 0 e) (subst (λ (v : X). has_number v ≡ true) (get_or_default rows 0 d e some) (parts 0 k d le lk f))))

  module _ (Before : X → X → Type 0) (up : (r s : X) → Before r s → number r ≤ number s) (rows : List X) (order : Ordered Before rows) where
    less_down : (r s : X) → Before r s → has_less s ≡ true → has_less r ≡ true
    less_down r s b e = is_less r (let l = less_is s e in let u = up r s b in omega arith)

    number_down : (r s : X) → Before r s → has_number s ≡ true → has_less r ≡ false → has_number r ≡ true
    number_down r s b e f = is_number r (let n = number_is s e in let u = up r s b in let l : ¬ (number r < o) = λ l. true≢false (sym (is_less r l) ∙ f) in omega arith)

    number_apart : (r : X) → has_number r ≡ true → has_less r ≡ true → ⊥
    number_apart r e f = let n = number_is r e in let l = less_is r f in omega arith

    pub less_partitioned : IsPartitionedBy has_less rows
    less_partitioned = early_partitioned Before has_less has_number less_down number_down number_apart rows order

    climb : (i j : ℕ) (d : X) → i ≤ j → j < length rows → number (get_or rows i d) ≤ number (get_or rows j d)
    climb i j d le lj = elim (eqb_tells i j) [
      | inl e ↦ subst (λ (v : ℕ). number (get_or rows i d) ≤ number (get_or rows v d)) e.1 (omega arith)
      | inr m ↦ up (get_or rows i d) (get_or rows j d) (ordered_by_place Before rows order i j d (let ne = m.1 in omega arith) lj)
    ]

    -- the end, where the last number is less
    pub end_is_point : (n : ℕ) (e : X) → n ≡ length rows → 0 < n → number (get_or rows (n - 1) e) < o
        → IsPartitionPoint (λ (r : X). has_less r ≡ true) (λ (r : X). has_less r ≡ false) rows n
    end_is_point n e is some less = (
      λ k d le lk.
          let within : n - 1 < length rows = omega (arith, is, some) in
          let at = subst (λ (v : X). number v < o) (get_or_default rows (n - 1) e d within) less in
          let higher = climb k (n - 1) d (omega (arith, lk)) within in
          is_less (get_or rows k d) (omega (arith, at, higher)),
      λ k d le lk. absurd (omega (arith, le, lk, is)),
    )

    -- a place at which no number is less, and before which there is none or one that is
    pub place_is_point : (n : ℕ) (e : X) → n < length rows → o ≤ number (get_or rows n e) → (n ≡ 0) ⊎ (number (get_or rows (n - 1) e) < o)
        → IsPartitionPoint (λ (r : X). has_less r ≡ true) (λ (r : X). has_less r ≡ false) rows n
    place_is_point n e lt late early = (
      λ k d le lk. is_less (get_or rows k d) (before k d lk early),
      λ k d le lk. is_not_less (get_or rows k d) (behind k d le lk),
    )
      where
        behind : (k : ℕ) (d : X) → n ≤ k → k < length rows → o ≤ number (get_or rows k d)
        behind k d le lk =
            let at = subst (λ (v : X). o ≤ number v) (get_or_default rows n e d lt) late in
            let higher = climb n k d le lk in
            omega arith

        before : (k : ℕ) (d : X) → k < n → (n ≡ 0) ⊎ (number (get_or rows (n - 1) e) < o) → number (get_or rows k d) < o
        before k d lk (inl z) = absurd (omega arith)
        before k d lk (inr less) =
            let within : n - 1 < length rows = omega arith in
            let at = subst (λ (v : X). number v < o) (get_or_default rows (n - 1) e d within) less in
            let higher = climb k (n - 1) d (omega arith) within in
            omega arith

    module _ (n : ℕ) (bound : n ≤ length rows) (point : IsPartitionPoint (λ (r : X). has_less r ≡ true) (λ (r : X). has_less r ≡ false) rows n)
        (from : List X) (is : from ≡ take (length rows - n) (drop n rows)) where
      pub number_partitioned : IsPartitionedBy has_number from
      number_partitioned = fits_partitioned Before has_less has_number less_down number_down number_apart rows order n bound point from is

      pub numbered_rows : (m : ℕ) → m ≤ length from → IsPartitionPoint (λ (r : X). has_number r ≡ true) (λ (r : X). has_number r ≡ false) from m → (r : X) → Among (take m from) r ↔ (Among rows r × (number r ≡ o))
      numbered_rows m within split r =
          let k = fitting_rows Before has_less has_number less_down number_down number_apart rows order n bound point from is m within split r in
          (λ a. let h = k.0 a in (h.0, number_is r h.1), λ h. k.1 (h.0, is_number r h.1))
