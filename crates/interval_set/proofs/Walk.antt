-- The walk along two lists of spans, stretch by stretch.
use Rattle.std.proofs.Common.{◌≡◌, ⊎_elim, ℕ, ◌+◌, ◌-◌, ◌<◌, ◌≤◌, ℤ, pos, ◌+ℤ◌, ◌-ℤ◌, ◌≤ℤ◌, ◌<ℤ◌, List, [], ◌∷◌, length, get_or, take, drop, map, slice_get, Some, false, true≢false, All, sym, subst, arith}
use Rattle.std.proofs.lemmas.Bool.{cases_eq}
use Rattle.std.proofs.lemmas.Int.{ints, by_lt_z}
use Rattle.std.proofs.lemmas.List.{length-map, length-take, length-drop, get_or-take, get_or-map}
use Rattle.std.proofs.lemmas.Option.{slice_get_within, get_or_from_slice_get, slice_get-get_or}
use Rattle.itpg_base.specs.Spans.{Span, IsSpan, Covers, IsCoalesced}
use Rattle.itpg_base.specs.Graphs.{Valued}
use Rattle.interval_set.specs.Plain.{plain_run}
use Rattle.interval_set.specs.Places.{IsApartBefore, IsNear, AreNeighbours}
use Rattle.interval_set.specs.Operations.{IsStretch}
use Rattle.itpg_base.proofs.Lists.{among_at}
use Rattle.interval_set.proofs.Coalesced.{covers_from, covered_late, each_span, gaps}
use Rattle.interval_set.proofs.Searched.{at_middle}

-- a list begins with its first span
pub first_begins : (xs : List Span) (x : Span) (t : ℤ) → IsCoalesced xs → Some x ≡ slice_get xs 0 → Covers xs t → x.from ≤ℤ t
first_begins [] x t c is h = absurd h
first_begins (y ∷ ys) x t c is h =
    let same : x ≡ y = cc in
    let own : y.from ≤ℤ y.to = c.0 in
    subst (λ (z : Span). z.from ≤ℤ t) (sym same) (⊎_elim (λ w. w.begun) (λ n. let late = covered_late y.to ys t c.2 c.1 n in omega (arith, ints)) h)

-- before its first span a list has a stretch without moments
pub gap_stretch : (xs : List Span) (x : Span) (at : ℤ) → IsCoalesced xs → Some x ≡ slice_get xs 0 → at <ℤ x.from → IsStretch xs at false (x.from -ℤ pos 1)
gap_stretch [] x at c is before = let no : ⊥ = cc in absurd no
gap_stretch (y ∷ ys) x at c is before =
    let same : y ≡ x = cc in
    let own : x.from ≤ℤ x.to = subst IsSpan same c.0 in
    record {
      some = omega (arith, ints);
      same = λ t a b. (λ h. absurd (true≢false (sym h)), λ h. let begun = first_begins (y ∷ ys) x t c is h in absurd (omega (arith, ints)));
      ends = subst (λ (z : Span). (x.from -ℤ pos 1) ≤ℤ z.to) (sym same) (let le : (x.from -ℤ pos 1) ≤ℤ x.to = omega (arith, ints) in le);
    }

-- the neighbours of a span that comes after all others
all_take : (P : Valued → Type 0) (xs : List Valued) (n : ℕ) → ((k : ℕ) (d : Valued) → k < n → k < length xs → P (get_or xs k d)) → All P (take n xs)
all_take P xs n h k d lt =
    let below : k < n = omega (arith, length-take n xs) in
    rw (get_or-take n xs k d below) (h k d below (omega (arith, length-take n xs)))

none_after : (P : Valued → Type 0) (xs : List Valued) (n : ℕ) → length xs ≤ n → All P (drop n xs)
none_after P xs n past k d lt = absurd (omega (arith, length-drop n xs))

module _ (xs : List Span) (s : Span) (c : IsCoalesced xs) (span : IsSpan s) (later : (t : ℤ) → Covers xs t → t <ℤ s.from) where
  -- each span ends before the new one begins
  ended : (k : ℕ) (d : Span) → k < length xs → (get_or xs k d).to <ℤ s.from
  ended k d lt =
      let x = get_or xs k d in
      let member = among_at xs k d lt in
      let own : x.from ≤ℤ x.to = each_span xs x c member in
      later x.to (covers_from xs x x.to member (record { begun = own; going = omega (arith, ints) }))

  -- those before the last lie apart
  earlier_apart : (k : ℕ) (d : Span) → k + 1 < length xs → IsApartBefore (get_or xs k d) s
  earlier_apart k d lt =
      let last = get_or xs (length xs - 1) d in
      let gap = gaps xs k (length xs - 1) d c (omega arith) (omega arith) in
      let end = ended (length xs - 1) d (omega arith) in
      let own : last.from ≤ℤ last.to = each_span xs last c (among_at xs (length xs - 1) d (omega arith)) in
      omega (arith, ints)

  as_run : (P : Span → Type 0) (k : ℕ) (d : Valued) → k < length xs → P (get_or xs k d.span) → P (get_or (map plain_run xs) k d).span
  as_run P k d lt p = subst (λ (r : Valued). P r.span) (sym (get_or-map plain_run xs k d.span d lt)) p

  pub touching_end : (x : Span) → Some x ≡ slice_get xs (length xs - 1) → (¬ ((x.to +ℤ pos 1) <ℤ s.from)) → AreNeighbours (map plain_run xs) s (length xs - 1) (length xs)
  touching_end x is touch =
      let some = slice_get_within xs (length xs - 1) x (sym is) in
      let at_last = λ (d : Span). get_or_from_slice_get xs (length xs - 1) x d (sym is) in
      let reach : s.from ≤ℤ (x.to +ℤ pos 1) = by_lt_z (x.to +ℤ pos 1) s.from (λ lt. absurd (touch lt)) (λ le. le) in
      record {
        ordered = omega arith;
        within = omega (arith, length-map xs plain_run);
        before = all_take (λ r. IsApartBefore r.span s) (map plain_run xs) (length xs - 1)
            (λ k d lt inside. as_run (λ a. IsApartBefore a s) k d (omega arith) (earlier_apart k d.span (omega arith)));
        near = at_middle (λ r. IsNear r.span s) (map plain_run xs) (length xs - 1) (length xs)
            (λ k d above below inside.
            let is_last : k ≡ length xs - 1 = omega arith in
            let end = ended (length xs - 1) d.span some in
            let here : get_or xs k d.span ≡ x = subst (λ (i : ℕ). get_or xs i d.span ≡ x) (sym is_last) (at_last d.span) in
            let own : x.from ≤ℤ x.to = subst IsSpan (at_last d.span) (each_span xs (get_or xs (length xs - 1) d.span) c (among_at xs (length xs - 1) d.span some)) in
            let end_x : x.to <ℤ s.from = subst (λ (y : Span). y.to <ℤ s.from) (at_last d.span) end in
            let s_span : s.from ≤ℤ s.to = span in
            as_run (λ a. IsNear a s) k d below (subst (λ (y : Span). IsNear y s) (sym here) (record { from = reach; to = omega (arith, ints) })));
        after = none_after (λ r. IsApartBefore s r.span) (map plain_run xs) (length xs) (omega (arith, length-map xs plain_run));
      }

  pub apart_end : ((x : Span) → Some x ≡ slice_get xs (length xs - 1) → (x.to +ℤ pos 1) <ℤ s.from) → AreNeighbours (map plain_run xs) s (length xs) (length xs)
  apart_end apart = record {
    ordered = omega arith;
    within = omega (arith, length-map xs plain_run);
    before = all_take (λ r. IsApartBefore r.span s) (map plain_run xs) (length xs)
        (λ k d lt inside. as_run (λ a. IsApartBefore a s) k d lt (⊎_elim
        (λ is_last.
        let far = apart (get_or xs (length xs - 1) d.span) (sym (slice_get-get_or xs (length xs - 1) d.span (omega arith))) in
        subst (λ (i : ℕ). IsApartBefore (get_or xs i d.span) s) (sym is_last) far)
        (λ other. earlier_apart k d.span (omega arith)) (cases_eq k (length xs - 1))));
    near = at_middle (λ r. IsNear r.span s) (map plain_run xs) (length xs) (length xs) (λ k d above below inside. absurd (omega arith));
    after = none_after (λ r. IsApartBefore s r.span) (map plain_run xs) (length xs) (omega (arith, length-map xs plain_run));
  }
