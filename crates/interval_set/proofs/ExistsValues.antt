-- Values over moments within bounds have a list of runs: the runs are made from the last moment to the first.
use Rattle.std.proofs.Common.{◌≡◌, ◌⊎◌, inl, inr, ⊎_elim, ℕ, zero, suc, ◌+◌, ℤ, pos, ◌+ℤ◌, ◌-ℤ◌, ◌≤ℤ◌, List, [], ◌∷◌, refl, sym, subst, arith, ◌∙◌}
use Rattle.std.proofs.lemmas.Int.{ints, by_lt_z}
use borrow.Author.Differences.{up, down}
use Rattle.itpg_base.specs.Words.{Word}
use Rattle.itpg_base.specs.Graphs.{Valued, RunsHave, RunsApart, AreRunsOfValues}
use Rattle.itpg_base.proofs.Searches.{same_word}
use Rattle.interval_set.specs.Runs.{AreRunsOf}

-- whether something has a value, and which
abbrev pub SomeValue : (Word → Type 0) → Type 0
SomeValue P = ((value : Word) × P value) ⊎ ((value : Word) → ¬ P value)

module _ (H : ℤ → Word → Type 0) (low high : ℤ) (from : (t : ℤ) (value : Word) → H t value → low ≤ℤ t) (to : (t : ℤ) (value : Word) → H t value → t ≤ℤ high)
    (one : (t : ℤ) (v w : Word) → H t v → H t w → v ≡ w) (decide : (t : ℤ) → SomeValue (H t)) where
  -- the runs of the moments from p on
  record Later (p : ℤ) (runs : List Valued) : Type 0 where
    whole : (t : ℤ) (value : Word) → p ≤ℤ t → H t value → RunsHave runs t value
    only : (t : ℤ) (value : Word) → RunsHave runs t value → H t value
    late : (t : ℤ) (value : Word) → RunsHave runs t value → p ≤ℤ t
    coalesced : AreRunsOfValues runs

  at_same : (p t : ℤ) (value : Word) → H p value → p ≡ t → (v : Word) → value ≡ v → H t v
  at_same p t value here e v f = subst (λ (w : Word). H t w) f (subst (λ (u : ℤ). H u value) e here)

  -- a run of one moment before the others
  begun : (p : ℤ) (runs : List Valued) (value : Word) → H p value → Later (p +ℤ pos 1) runs → (let r : Valued = record { span = record { from = p; to = p }; value = value } in RunsApart r runs) → (runs' : List Valued) × Later p runs'
  begun p runs value here l apart = (
    record { span = record { from = p; to = p }; value = value } ∷ runs,
    record {
      whole = λ t v a h. by_lt_z p t (λ lt. inr (l.whole t v (omega (arith, ints)) h))
          (λ le. let e : t ≡ p = omega (arith, ints) in inl (record { begun = a; going = le }, one p value v here (subst (λ (u : ℤ). H u v) e h)));
      only = λ t v c. ⊎_elim (λ h. let w = h.0 in let a = w.begun in let b = w.going in let e : p ≡ t = omega (arith, ints) in at_same p t value here e v h.1) (λ n. l.only t v n) c;
      late = λ t v c. ⊎_elim (λ h. (h.0).begun) (λ n. let m = l.late t v n in omega (arith, ints)) c;
      coalesced = (omega (arith, ints), apart, l.coalesced);
    },
  )

  -- the first run longer by one moment
  longer : (p : ℤ) (r : Valued) (rest : List Valued) (value : Word) → H p value → Later (p +ℤ pos 1) (r ∷ rest) → r.span.from ≡ p +ℤ pos 1 → r.value ≡ value → (runs' : List Valued) × Later p runs'
  longer p r rest value here l next same =
      let span : r.span.from ≤ℤ r.span.to = (l.coalesced).0 in (
        record { span = record { from = p; to = r.span.to }; value = r.value } ∷ rest,
        record {
          whole = λ t v a h. by_lt_z p t
              (λ lt. ⊎_elim (λ n. let w = n.0 in let c = w.going in inl (record { begun = a; going = c }, n.1)) (λ n. inr n) (l.whole t v (omega (arith, ints)) h))
              (λ le. let e : t ≡ p = omega (arith, ints) in inl (record { begun = a; going = omega (arith, ints) }, same ∙ one p value v here (subst (λ (u : ℤ). H u v) e h)));
          only = λ t v c. ⊎_elim
              (λ h. let w = h.0 in by_lt_z p t (λ lt. l.only t v (inl (record { begun = omega (arith, ints); going = w.going }, h.1)))
              (λ le. let a = w.begun in let e : p ≡ t = omega (arith, ints) in at_same p t value here e v (sym same ∙ h.1)))
              (λ n. l.only t v (inr n)) c;
          late = λ t v c. ⊎_elim (λ h. (h.0).begun) (λ n. let m = l.late t v (inr n) in omega (arith, ints)) c;
          coalesced = (omega (arith, ints), longer_apart rest (l.coalesced).1, (l.coalesced).2);
        },
      )
    where
      longer_apart : (rest : List Valued) → RunsApart r rest → (let q : Valued = record { span = record { from = p; to = r.span.to }; value = r.value } in RunsApart q rest)
      longer_apart [] a = tt
      longer_apart (q ∷ qs) a = (a.0, a.1)

  further : (p : ℤ) (runs : List Valued) (value : Word) → H p value → Later (p +ℤ pos 1) runs → (runs' : List Valued) × Later p runs'
  further p [] value here l = begun p [] value here l tt
  further p (r ∷ rest) value here l =
      let span : r.span.from ≤ℤ r.span.to = (l.coalesced).0 in
      let far = l.late r.span.from r.value (inl (record { begun = omega (arith, ints); going = span }, refl)) in
      by_lt_z (p +ℤ pos 1) r.span.from
      (λ lt. begun p (r ∷ rest) value here l (omega (arith, ints), λ same. lt))
      (λ le. elim (same_word r.value value) [
        | inl same ↦ longer p r rest value here l (omega (arith, ints)) same
        | inr other ↦ begun p (r ∷ rest) value here l (omega (arith, ints), λ same. absurd (other (sym same)))
      ])

  down_to : (n : ℕ) → (runs : List Valued) × Later ((high +ℤ pos 1) -ℤ pos n) runs
  down_to zero = ([], record { whole = λ t v a h. let b = to t v h in omega (arith, ints); only = λ t v c. absurd c; late = λ t v c. absurd c; coalesced = tt })
  down_to (suc n) =
      let l = down_to n in
      let p : ℤ = (high +ℤ pos 1) -ℤ pos (suc n) in
      let next : (high +ℤ pos 1) -ℤ pos n ≡ p +ℤ pos 1 = omega (arith, ints) in
      let m = subst (λ (v : ℤ). Later v l.0) next l.1 in
      elim (decide p) [
        | inl here ↦ further p l.0 here.0 here.1 m
        | inr none ↦ (
          l.0,
          record {
            whole = λ t v a h. by_lt_z p t (λ lt. m.whole t v (omega (arith, ints)) h) (λ le. let e : t ≡ p = omega (arith, ints) in absurd (none v (subst (λ (u : ℤ). H u v) e h)));
            only = m.only;
            late = λ t v c. let b = m.late t v c in omega (arith, ints);
            coalesced = m.coalesced;
          },
        )
      ]

  pub runs_of_exist : (runs : List Valued) × AreRunsOf H runs
  runs_of_exist =
      let l = down_to (suc (up high + down low)) in
      (l.0, record { whole = λ t v h. let a = from t v h in (l.1).whole t v (omega (arith, ints)) h; only = (l.1).only; coalesced = (l.1).coalesced })
