-- Lists of spans as lists of runs of no value.
use Rattle.std.proofs.Common.{◌≡◌, ◌⊎◌, inl, inr, ⊎_elim, ℤ, List, [], ◌∷◌, map, refl, arith}
use Rattle.std.proofs.lemmas.Int.{ints}
use Rattle.itpg_base.specs.Spans.{Span, Within, Covers, StartsApart, IsCoalesced}
use Rattle.itpg_base.specs.Words.{Word}
use Rattle.itpg_base.specs.Graphs.{RunsHave, RunsApart, AreRunsOfValues}
use Rattle.interval_set.specs.Runs.{AreRuns, AreRunsOf, HasPut, HasCleared}
use Rattle.interval_set.specs.Plain.{plain_run}
use Rattle.interval_set.proofs.Coalesced.{decide_within}

pub runs_of_spans : (xs : List Span) → IsCoalesced xs → AreRunsOfValues (map plain_run xs)
runs_of_spans [] c = tt
runs_of_spans (x ∷ xs) c = (c.0, apart x xs c.1, runs_of_spans xs c.2)
  where
    apart : (x : Span) (xs : List Span) → StartsApart x.to xs → RunsApart (plain_run x) (map plain_run xs)
    apart x [] a = tt
    apart x (y ∷ ys) a = (omega (arith, ints), λ e. a)

pub spans_of_runs : (xs : List Span) → AreRunsOfValues (map plain_run xs) → IsCoalesced xs
spans_of_runs [] c = tt
spans_of_runs (x ∷ xs) c = (c.0, apart x xs c.1, spans_of_runs xs c.2)
  where
    apart : (x : Span) (xs : List Span) → RunsApart (plain_run x) (map plain_run xs) → StartsApart x.to xs
    apart x [] a = tt
    apart x (y ∷ ys) a = a.1 refl

pub has_of_covers : (xs : List Span) (t : ℤ) → Covers xs t → RunsHave (map plain_run xs) t []
has_of_covers [] t c = absurd c
has_of_covers (x ∷ xs) t (inl w) = inl (w, refl)
has_of_covers (x ∷ xs) t (inr c) = inr (has_of_covers xs t c)

pub covers_of_has : (xs : List Span) (t : ℤ) (value : Word) → RunsHave (map plain_run xs) t value → Covers xs t × ([] ≡ value)
covers_of_has [] t value h = absurd h
covers_of_has (x ∷ xs) t value (inl h) = (inl h.0, h.1)
covers_of_has (x ∷ xs) t value (inr h) = let c = covers_of_has xs t value h in (inr c.0, c.1)

-- a run that is put joins its moments, and one that is cleared takes them out
pub joined_by : (xs ys : List Span) (s : Span) → AreRunsOf (HasPut (map plain_run xs) s []) (map plain_run ys) → AreRuns (λ t. Covers xs t ⊎ Within t s) ys
joined_by xs ys s runs = record {
  whole = λ t h. (covers_of_has ys t [] (runs.whole t [] (⊎_elim (λ c. elsewhere t c) (λ w. inl (w, refl)) h))).0;
  only = λ t c. ⊎_elim (λ h. inr h.0) (λ h. inl (covers_of_has xs t [] h.0).0) (runs.only t [] (has_of_covers ys t c));
  coalesced = spans_of_runs ys runs.coalesced;
}
  where
    elsewhere : (t : ℤ) → Covers xs t → HasPut (map plain_run xs) s [] t []
    elsewhere t c = elim (decide_within s t) [ inl w ↦ inl (w, refl) | inr none ↦ inr (has_of_covers xs t c, none) ]

pub cut_by : (xs ys : List Span) (s : Span) → AreRunsOf (HasCleared (map plain_run xs) s) (map plain_run ys) → AreRuns (λ t. Covers xs t × (¬ Within t s)) ys
cut_by xs ys s runs = record {
  whole = λ t h. (covers_of_has ys t [] (runs.whole t [] (has_of_covers xs t h.0, h.1))).0;
  only = λ t c. let h = runs.only t [] (has_of_covers ys t c) in ((covers_of_has xs t [] h.0).0, h.1);
  coalesced = spans_of_runs ys runs.coalesced;
}
