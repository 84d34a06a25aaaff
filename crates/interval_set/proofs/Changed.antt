-- What a change leaves has a list: the list after each change exists, whether or not the change is made.
use Rattle.std.proofs.Common.{◌≡◌, ◌⊎◌, inl, inr, ⊎_elim, ℤ, pos, ◌≤ℤ◌, List, [], ◌∷◌, refl, sym, arith, ◌∙◌}
use Rattle.std.specs.Int.{int_max, int_min}
use Rattle.std.proofs.lemmas.Int.{ints, clamps}
use Rattle.itpg_base.specs.Spans.{Span, Within, Covers}
use Rattle.itpg_base.specs.Words.{Word}
use Rattle.itpg_base.specs.Graphs.{Valued, RunsHave, AreRunsOfValues}
use Rattle.interval_set.specs.Runs.{AreRuns, AreRunsOf, HasPut, HasCleared}
use Rattle.interval_set.proofs.Coalesced.{decide_within, decide_covers}
use Rattle.interval_set.proofs.Rising.{has_by, one_run}
use Rattle.interval_set.proofs.Exists.{runs_exist}
use Rattle.interval_set.proofs.ExistsValues.{SomeValue, runs_of_exist}

-- two moments between which all moments of a set lie
abbrev pub LiesBetween : (ℤ → Type 0) → ℤ → ℤ → Type 0
LiesBetween S low high = (t : ℤ) → S t → (low ≤ℤ t) × (t ≤ℤ high)

pub covers_between : (xs : List Span) → (low : ℤ) × (high : ℤ) × LiesBetween (Covers xs) low high
covers_between [] = (pos 0, pos 0, λ t c. absurd c)
covers_between (x ∷ xs) =
    let rest = covers_between xs in (
      int_min x.from rest.0,
      int_max x.to rest.1,
      λ t c. ⊎_elim (λ w. let a = w.begun in let b = w.going in (omega (arith, ints, clamps), omega (arith, ints, clamps)))
          (λ n. let l = rest.2 t n in let a = l.0 in let b = l.1 in (omega (arith, ints, clamps), omega (arith, ints, clamps))) c,
    )

pub has_between : (xs : List Valued) → (low : ℤ) × (high : ℤ) × ((value : Word) → LiesBetween (λ t. RunsHave xs t value) low high)
has_between [] = (pos 0, pos 0, λ value t h. absurd h)
has_between (x ∷ xs) =
    let rest = has_between xs in (
      int_min x.span.from rest.0,
      int_max x.span.to rest.1,
      λ value t c. ⊎_elim (λ h. let w = h.0 in let a = w.begun in let b = w.going in (omega (arith, ints, clamps), omega (arith, ints, clamps)))
          (λ n. let l = rest.2 value t n in let a = l.0 in let b = l.1 in (omega (arith, ints, clamps), omega (arith, ints, clamps))) c,
    )

-- which value the runs have at a moment, and that it is one
pub decide_value : (xs : List Valued) (t : ℤ) → SomeValue (RunsHave xs t)
decide_value [] t = inr (λ value h. h)
decide_value (x ∷ xs) t = elim (decide_within x.span t) [
  | inl w ↦ inl (x.value, inl (w, refl))
  | inr none ↦ elim (decide_value xs t) [ inl h ↦ inl (h.0, inr h.1) | inr n ↦ inr (λ value c. ⊎_elim (λ h. none h.0) (n value) c) ]
]

pub one_value : (xs : List Valued) (t : ℤ) (v w : Word) → AreRunsOfValues xs → RunsHave xs t v → RunsHave xs t w → v ≡ w
one_value xs t v w c h k =
    let a = has_by xs t v h in
    let b = has_by xs t w k in
    let same : a.0 ≡ b.0 = one_run xs a.0 b.0 t c a.1 b.1 a.2 b.2 in
    sym a.3 ∙ (value_of same ∙ b.3)
  where
    value_of : {r q : Valued} → r ≡ q → r.value ≡ q.value
    value_of e = cc

-- the list with a span joined, and with a span cut out
pub joined_exists : (xs : List Span) (s : Span) → (spans : List Span) × AreRuns (λ t. Covers xs t ⊎ Within t s) spans
joined_exists xs s =
    let bound = covers_between xs in
    runs_exist (λ t. Covers xs t ⊎ Within t s) (int_min s.from bound.0) (int_max s.to bound.1)
    (λ t h. ⊎_elim (λ c. let a = (bound.2 t c).0 in omega (arith, ints, clamps)) (λ w. let a = w.begun in omega (arith, ints, clamps)) h)
    (λ t h. ⊎_elim (λ c. let a = (bound.2 t c).1 in omega (arith, ints, clamps)) (λ w. let a = w.going in omega (arith, ints, clamps)) h)
    (λ t. elim (decide_covers xs t) [ inl c ↦ inl (inl c) | inr n ↦ elim (decide_within s t) [ inl w ↦ inl (inr w) | inr m ↦ inr (λ h. ⊎_elim n m h) ] ])

pub cut_exists : (xs : List Span) (s : Span) → (spans : List Span) × AreRuns (λ t. Covers xs t × (¬ Within t s)) spans
cut_exists xs s =
    let bound = covers_between xs in
    runs_exist (λ t. Covers xs t × (¬ Within t s)) bound.0 bound.1 (λ t h. (bound.2 t h.0).0) (λ t h. (bound.2 t h.0).1)
    (λ t. elim (decide_covers xs t) [ inl c ↦ elim (decide_within s t) [ inl w ↦ inr (λ h. h.1 w) | inr m ↦ inl (c, m) ] | inr n ↦ inr (λ h. n h.0) ])

-- the list with a value put, and with a span cleared
pub put_exists : (xs : List Valued) (s : Span) (value : Word) → AreRunsOfValues xs → (runs : List Valued) × AreRunsOf (HasPut xs s value) runs
put_exists xs s value c =
    let bound = has_between xs in
    runs_of_exist (HasPut xs s value) (int_min s.from bound.0) (int_max s.to bound.1)
    (λ t v h. ⊎_elim (λ n. let a = (n.0).begun in omega (arith, ints, clamps)) (λ n. let a = (bound.2 v t n.0).0 in omega (arith, ints, clamps)) h)
    (λ t v h. ⊎_elim (λ n. let a = (n.0).going in omega (arith, ints, clamps)) (λ n. let a = (bound.2 v t n.0).1 in omega (arith, ints, clamps)) h)
    (λ t v w h k. ⊎_elim (λ a. ⊎_elim (λ b. a.1 ∙ sym b.1) (λ b. absurd (b.1 a.0)) k) (λ a. ⊎_elim (λ b. absurd (a.1 b.0)) (λ b. one_value xs t v w c a.0 b.0) k) h)
    (λ t. elim (decide_within s t) [
      | inl w ↦ inl (value, inl (w, refl))
      | inr m ↦ elim (decide_value xs t) [ inl h ↦ inl (h.0, inr (h.1, m)) | inr n ↦ inr (λ v h. ⊎_elim (λ a. m a.0) (λ a. n v a.0) h) ]
    ])

pub clear_exists : (xs : List Valued) (s : Span) → AreRunsOfValues xs → (runs : List Valued) × AreRunsOf (HasCleared xs s) runs
clear_exists xs s c =
    let bound = has_between xs in
    runs_of_exist (HasCleared xs s) bound.0 bound.1 (λ t v h. (bound.2 v t h.0).0) (λ t v h. (bound.2 v t h.0).1) (λ t v w h k. one_value xs t v w c h.0 k.0)
    (λ t. elim (decide_within s t) [
      | inl w ↦ inr (λ v h. h.1 w)
      | inr m ↦ elim (decide_value xs t) [ inl h ↦ inl (h.0, (h.1, m)) | inr n ↦ inr (λ v h. n v h.0) ]
    ])
