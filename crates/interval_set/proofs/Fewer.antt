-- A change of a list adds at most three runs, since it is a splice.
use Rattle.std.proofs.Common.{◌≡◌, ◌≢◌, ◌↔◌, ◌⊎◌, inl, inr, ⊎_elim, ℕ, zero, suc, ◌+◌, ◌-◌, ◌<◌, ◌≤◌, pos, ◌+ℤ◌, ◌-ℤ◌, ◌≤ℤ◌, ◌<ℤ◌, List, [], ◌∷◌, ◌++◌, length, get_or, take, drop, map, All, slice_get, Option, Some, None, option_to_list, Bool, true, false, nat_eq, true≢false, refl, sym, subst, ap, arith, ◌∙◌, length-append, length-drop}
use Rattle.std.specs.Int.{int_max, int_min}
use Rattle.std.specs.Cmp.Lexicographic.{pointwise}
use Rattle.std.proofs.lemmas.Int.{ints, by_lt_z}
use Rattle.std.proofs.lemmas.Slice.Eq.{bytes_eq-Decides}
use Rattle.std.proofs.lemmas.List.{length-take, length-map}
use Rattle.itpg_base.specs.Spans.{Span, IsSpan, Within, Covers, IsCoalesced}
use Rattle.itpg_base.specs.Words.{Word}
use Rattle.itpg_base.specs.Graphs.{Valued, RunsHave, AreRunsOfValues}
use Rattle.interval_set.specs.Plain.{plain_run}
use Rattle.interval_set.specs.Places.{AreNeighbours}
use Rattle.interval_set.specs.Splices.{replaced}
use Rattle.interval_set.specs.Borders.{IsLeftBefore, IsLeftAfter, MeetsBefore, MeetsAfter}
use Rattle.interval_set.specs.Runs.{AreRuns, AreRunsOf, HasPut}
use Rattle.interval_set.proofs.Coalesced.{decide_within}
use Rattle.interval_set.proofs.Rising.{Rises, rises}
use Rattle.interval_set.proofs.Around.{neighbours_from}
use Rattle.interval_set.proofs.Put.{reaches_by, put_at}
use Rattle.interval_set.proofs.Plain.{runs_of_spans, has_of_covers, covers_of_has}
use Rattle.interval_set.proofs.UniqueValues.{runs_of_unique}

all_cons : (P : Valued → Type 0) (x : Valued) (xs : List Valued) → P x → All P xs → All P (x ∷ xs)
all_cons P x xs p all zero d lt = p
all_cons P x xs p all (suc k) d lt = all k d (omega arith)

-- the place of a list of runs from which the second holds, where it holds of all behind one of which it holds
module _ (P Q : Valued → Type 0) (decide : (r : Valued) → P r ⊎ Q r) (later : (r q : Valued) → Rises r q → Q r → Q q) where
  turn : (xs : List Valued) → AreRunsOfValues xs → (n : ℕ) × (n ≤ length xs) × All P (take n xs) × All Q (drop n xs)
  turn [] c = (zero, omega arith, (λ k d lt. absurd (omega arith)), (λ k d lt. absurd (omega arith)))
  turn (x ∷ xs) c = elim (decide x) [
    | inl p ↦ let rest = turn xs c.2 in let le = rest.1 in (suc rest.0, omega arith, all_cons P x (take rest.0 xs) p rest.2, rest.3)
    | inr q ↦ (zero, omega arith, (λ k d lt. absurd (omega arith)), (λ k d lt. later x (get_or (x ∷ xs) k d) (rises (x ∷ xs) zero k d c (omega arith) lt) q))
  ]

neighbours_exist : (xs : List Valued) (s : Span) → AreRunsOfValues xs → IsSpan s → (first : ℕ) × (last : ℕ) × AreNeighbours xs s first last
neighbours_exist xs s c span =
    let a = turn (λ r. (r.span.to +ℤ pos 1) <ℤ s.from) (λ r. s.from ≤ℤ (r.span.to +ℤ pos 1)) (λ r. by_lt_z (r.span.to +ℤ pos 1) s.from (λ lt. inl lt) (λ le. inr le))
    (λ r q rise near. let to = rise.to in omega (arith, ints)) xs c in
    let b = turn (λ r. r.span.from ≤ℤ (s.to +ℤ pos 1)) (λ r. (s.to +ℤ pos 1) <ℤ r.span.from) (λ r. by_lt_z (s.to +ℤ pos 1) r.span.from (λ lt. inr lt) (λ le. inl le))
    (λ r q rise apart. let from = rise.from in omega (arith, ints)) xs c in
    (a.0, b.0, neighbours_from xs s a.0 b.0 c span a.1 b.1 a.2 a.3 b.2 b.3)

-- what is left of a run beside a span
left_before : (run : Valued) (s : Span) → (left : Option Valued) × IsLeftBefore run s left
left_before run s = by_lt_z run.span.from s.from
    (λ lt. (Some (record { span = record { from = run.span.from; to = int_min run.span.to (s.from -ℤ pos 1) }; value = run.value }), record { some = lt; value = refl; from = refl; to = refl })) (λ le. (None, le))

left_after : (run : Valued) (s : Span) → (left : Option Valued) × IsLeftAfter run s left
left_after run s = by_lt_z s.to run.span.to
    (λ lt. (Some (record { span = record { from = int_max run.span.from (s.to +ℤ pos 1); to = run.span.to }; value = run.value }), record { some = lt; value = refl; from = refl; to = refl })) (λ le. (None, le))

same_word : (a b : Word) → (a ≡ b) ⊎ (a ≢ b)
same_word a b = by_test (pointwise nat_eq a b) refl
  where
    by_test : (test : Bool) → pointwise nat_eq a b ≡ test → (a ≡ b) ⊎ (a ≢ b)
    by_test true e = inl ((bytes_eq-Decides a b).0 e)
    by_test false e = inr (λ same. true≢false (sym ((bytes_eq-Decides a b).1 same) ∙ e))

meets_before : (o : Option Valued) (own : Valued) → (left : Option Valued) × (reach : Span) × MeetsBefore o own left reach
meets_before None own = (None, own.span, (refl, refl))
meets_before (Some run) own = elim (same_word run.value own.value) [
  | inl same ↦ (None, run.span, inl (same, refl, refl))
  | inr other ↦ let l = left_before run own.span in (l.0, own.span, inr (other, l.1, refl))
]

meets_after : (o : Option Valued) (own : Valued) → (left : Option Valued) × (reach : Span) × MeetsAfter o own left reach
meets_after None own = (None, own.span, (refl, refl))
meets_after (Some run) own = elim (same_word run.value own.value) [
  | inl same ↦ (None, run.span, inl (same, refl, refl))
  | inr other ↦ let l = left_after run own.span in (l.0, own.span, inr (other, l.1, refl))
]

length_option : (o : Option Valued) → length (option_to_list o) ≤ 1
length_option None = omega arith
length_option (Some x) = omega arith

length_replaced : (first last : ℕ) (left own right : Option Valued) (xs : List Valued) → first ≤ last → last ≤ length xs → length (replaced first last left own right xs) ≤ length xs + 3
length_replaced first last left own right xs ordered within =
    let a = length_option left in let b = length_option own in let c = length_option right in
    let front = length-append (take first xs) (option_to_list left ++ (option_to_list own ++ (option_to_list right ++ drop last xs))) in
    let second = length-append (option_to_list left) (option_to_list own ++ (option_to_list right ++ drop last xs)) in
    let third = length-append (option_to_list own) (option_to_list right ++ drop last xs) in
    let fourth = length-append (option_to_list right) (drop last xs) in
    omega (arith, length-take first xs, length-drop last xs)

module _ (xs : List Valued) (s : Span) (value : Word) (c : AreRunsOfValues xs) (span : IsSpan s) where
  few_made : (runs : List Valued) × AreRunsOf (HasPut xs s value) runs × (length runs ≤ length xs + 3)
  few_made =
      let item : Valued = record { span = s; value = value } in
      let n = neighbours_exist xs s c span in
      let near = take (n.1 - n.0) (drop n.0 xs) in
      let a = meets_before (slice_get near 0) item in
      let b = meets_after (slice_get near (length near - 1)) item in
      let own : Valued = record { span = record { from = int_min s.from (a.1).from; to = int_max s.to (b.1).to }; value = value } in (
        replaced n.0 n.1 a.0 (Some own) b.0 xs,
        put_at xs item own n.0 n.1 a.0 b.0 a.1 b.1 c span n.2 a.2 b.2 (reaches_by item own a.1 b.1 own.span refl refl refl),
        length_replaced n.0 n.1 a.0 (Some own) b.0 xs n.2.ordered n.2.within,
      )

  pub few_put : (runs : List Valued) → AreRunsOf (HasPut xs s value) runs → length runs ≤ length xs + 3
  few_put runs are =
      let same : length few_made.0 ≡ length runs = ap length (runs_of_unique (HasPut xs s value) few_made.0 runs few_made.1 are) in
      let few = few_made.2 in
      omega arith

-- the same of spans, which are runs of no value
put_by : (xs ys : List Span) (s : Span) → AreRuns (λ t. Covers xs t ⊎ Within t s) ys → AreRunsOf (HasPut (map plain_run xs) s []) (map plain_run ys)
put_by xs ys s runs = record {
  whole = λ t value h. ⊎_elim
      (λ own. subst (λ v. RunsHave (map plain_run ys) t v) (sym own.1) (has_of_covers ys t (runs.whole t (inr own.0))))
      (λ old. let h = covers_of_has xs t value old.0 in subst (λ v. RunsHave (map plain_run ys) t v) h.1 (has_of_covers ys t (runs.whole t (inl h.0)))) h;
  only = λ t value h.
      let c = covers_of_has ys t value h in
      elim (decide_within s t) [
        | inl w ↦ inl (w, sym c.1)
        | inr none ↦ inr (⊎_elim (λ old. subst (λ v. RunsHave (map plain_run xs) t v) c.1 (has_of_covers xs t old)) (λ w. absurd (none w)) (runs.only t c.0), none)
      ];
  coalesced = runs_of_spans ys runs.coalesced;
}

pub few_joined : (xs ys : List Span) (s : Span) → IsCoalesced xs → IsSpan s → AreRuns (λ t. Covers xs t ⊎ Within t s) ys → length ys ≤ length xs + 3
few_joined xs ys s c span runs =
    let few = few_put (map plain_run xs) s [] (runs_of_spans xs c) span (map plain_run ys) (put_by xs ys s runs) in
    omega (arith, length-map xs plain_run, length-map ys plain_run)

-- where even three more are not too many, there are not too many
pub never_beyond : (len count most : ℕ) (may : Bool) → (may ≡ true) ↔ (most < len + 3) → may ≡ false → count ≤ len + 3 → (may ≡ true) ↔ (most < count)
never_beyond len count most may near is few = (λ yes. absurd (true≢false (sym yes ∙ is)), λ more. near.1 (omega arith))
