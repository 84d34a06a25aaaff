-- A walk along runs that looks for one value.
use Rattle.std.proofs.Common.{◌≡◌, ℕ, ◌+◌, ◌<◌, ◌≤◌, ℤ, ◌≤ℤ◌, inl, inr, List, [], ◌∷◌, ◌++◌, length, take, append-nil, Bool, true, false, cond, Option, Some, None, is_some, option_to_list, map, filter, nat_eq, refl, sym, subst, ap, true≢false, arith, ◌∙◌}
use Rattle.std.specs.Prelude.{slice_get, SomeIff}
use Rattle.std.specs.Cmp.Lexicographic.{pointwise}
use Rattle.std.proofs.lemmas.List.{take_more, take_all}
use Rattle.std.proofs.lemmas.Option.{slice_get_cases}
use Rattle.std.proofs.lemmas.Slice.Eq.{bytes_eq-Decides}
use Rattle.itpg_base.specs.Spans.{Span, Covers}
use Rattle.itpg_base.specs.Words.{Word}
use Rattle.itpg_base.specs.Graphs.{Valued, RunsHave, AreRunsOfValues}
use Rattle.itpg_base.specs.Lists.{Among}
use Rattle.itpg_base.proofs.Lists.{among_at}
use Rattle.interval_set.specs.Runs.{AreRuns}
use Rattle.interval_set.proofs.Placed.{placed_runs}
use Rattle.interval_set.proofs.Rising.{has_from, each_run_span}
use Rattle.std.proofs.lemmas.Int.{ints}

-- the spans of the runs that have the value
abbrev pub spans_with : Word → List Valued → List Span
spans_with value runs = map (λ (r : Valued). r.span) (filter (λ (r : Valued). pointwise nat_eq r.value value) runs)

pub spans_runs : (value : Word) (runs : List Valued) → AreRunsOfValues runs → AreRuns (λ t. RunsHave runs t value) (spans_with value runs)
spans_runs value runs c = placed_runs value (λ r. pointwise nat_eq r.value value) (λ r. bytes_eq-Decides r.value value) runs c

with_append : (value : Word) (xs : List Valued) (r : Valued) → spans_with value (xs ++ r ∷ []) ≡ spans_with value xs ++ spans_with value (r ∷ [])
with_append value [] r = refl
with_append value (x ∷ xs) r = by_test (pointwise nat_eq x.value value) (with_append value xs r)
  where
    by_test : (b : Bool) → spans_with value (xs ++ r ∷ []) ≡ spans_with value xs ++ spans_with value (r ∷ [])
        → map (λ (v : Valued). v.span) (cond b (x ∷ filter (λ (v : Valued). pointwise nat_eq v.value value) (xs ++ r ∷ [])) (filter (λ (v : Valued). pointwise nat_eq v.value value) (xs ++ r ∷ [])))
        ≡ map (λ (v : Valued). v.span) (cond b (x ∷ filter (λ (v : Valued). pointwise nat_eq v.value value) xs) (filter (λ (v : Valued). pointwise nat_eq v.value value) xs)) ++ spans_with value (r ∷ [])
    by_test true e = ap (λ (v : List Span). x.span ∷ v) e
    by_test false e = e

alone : (value : Word) (r : Valued) (b : Bool) → pointwise nat_eq r.value value ≡ b → spans_with value (r ∷ []) ≡ map (λ (v : Valued). v.span) (cond b (r ∷ []) [])
alone value r b e = ap (λ (c : Bool). map (λ (v : Valued). v.span) (cond c (r ∷ []) [])) e

-- the span of one run, if that has the value
of_one : (value : Word) (r : Valued) (found : Option Span) → SomeIff found (r.value ≡ value) r.span → spans_with value (r ∷ []) ≡ option_to_list found
of_one value r (Some s) h = alone value r true ((bytes_eq-Decides r.value value).1 h.0) ∙ ap (λ (v : Span). v ∷ []) (sym h.1)
of_one value r None differs = by_test (pointwise nat_eq r.value value) refl
  where
    by_test : (b : Bool) → pointwise nat_eq r.value value ≡ b → spans_with value (r ∷ []) ≡ []
    by_test true e = absurd (differs ((bytes_eq-Decides r.value value).0 e))
    by_test false e = alone value r false e

module _ (value : Word) (runs : List Valued) where
  pub spans_start : spans_with value (take 0 runs) ≡ []
  spans_start = none runs
    where
      none : (xs : List Valued) → spans_with value (take 0 xs) ≡ []
      none [] = refl
      none (x ∷ xs) = refl

  pub spans_end : (i : ℕ) → length runs ≤ i → spans_with value (take i runs) ≡ spans_with value runs
  spans_end i le = ap (λ (v : List Valued). spans_with value v) (take_all i runs le)

  module _ (i : ℕ) (found : Option Span) (lt : i < length runs) (says : (run : Valued) → slice_get runs i ≡ Some run → SomeIff found (run.value ≡ value) run.span) where
    -- the walk has one span more where the run at the place has the value
    pub spans_more : spans_with value (take (i + 1) runs) ≡ spans_with value (take i runs) ++ option_to_list found
    spans_more = elim (slice_get_cases runs i).1 [
      | inl h ↦
          ap (λ (v : List Valued). spans_with value v) (take_more runs i h.0 lt ∙ ap (λ (v : Valued). take i runs ++ v ∷ []) h.3)
          ∙ (with_append value (take i runs) h.0 ∙ ap (λ (v : List Span). spans_with value (take i runs) ++ v) (of_one value h.0 found (says h.0 h.2)))
      | inr past ↦ let far = past.0 in absurd (omega arith)
    ]

    pub spans_taken : (now next : List Span) (s : Span) → found ≡ Some s → now ≡ spans_with value (take i runs) → next ≡ now ++ s ∷ [] → next ≡ spans_with value (take (i + 1) runs)
    spans_taken now next s there is pushed = pushed ∙ (ap (λ (v : List Span). v ++ s ∷ []) is ∙ (ap (λ (o : Option Span). spans_with value (take i runs) ++ option_to_list o) (sym there) ∙ sym spans_more))

    pub spans_kept : found ≡ None → spans_with value (take i runs) ≡ spans_with value (take (i + 1) runs)
    spans_kept missing = sym (append-nil (spans_with value (take i runs))) ∙ (ap (λ (o : Option Span). spans_with value (take i runs) ++ option_to_list o) (sym missing) ∙ sym spans_more)

    pub none_yet : is_some found ≡ false → spans_with value (take i runs) ≡ [] → spans_with value (take (i + 1) runs) ≡ []
    none_yet missing none = sym (spans_kept (is_none found missing)) ∙ none
      where
        is_none : (o : Option Span) → is_some o ≡ false → o ≡ None
        is_none None e = refl
        is_none (Some x) e = absurd (true≢false e)

    -- a run that has the value has it at some moment
    pub some_moment : AreRunsOfValues runs → is_some found ≡ true → (t : ℤ) × RunsHave runs t value
    some_moment c there = elim (slice_get_cases runs i).1 [
      | inl h ↦
          let member = subst (λ (v : Valued). Among runs v) h.3 (among_at runs i h.0 lt) in
          let own : (h.0).span.from ≤ℤ (h.0).span.to = each_run_span runs h.0 c member in
          ((h.0).span.from, has_from runs h.0 (h.0).span.from value member (record { begun = omega (arith, ints); going = own }) (is_there _ _ found (says h.0 h.2) there))
      | inr past ↦ let far = past.0 in absurd (omega arith)
    ]
      where
        is_there : (P : Type 0) (s : Span) (o : Option Span) → SomeIff o P s → is_some o ≡ true → P
        is_there P s (Some x) h there = h.0
        is_there P s None h there = absurd (true≢false (sym there))

-- where the walk finds no span, no moment has the value
pub no_moment : (value : Word) (runs : List Valued) → AreRunsOfValues runs → spans_with value runs ≡ [] → ((t : ℤ) × RunsHave runs t value) → ⊥
no_moment value runs c none h = subst (λ (v : List Span). Covers v h.0) none ((spans_runs value runs c).whole h.0 h.1)
