-- A decided set of moments within bounds has a coalesced list: its runs are made from the last moment to the first.
use Rattle.std.proofs.Common.{◌≡◌, inl, inr, ⊎_elim, ℕ, zero, suc, ◌+◌, ℤ, pos, ◌+ℤ◌, ◌-ℤ◌, ◌≤ℤ◌, List, [], ◌∷◌, subst, arith, refl, sym, Bool, true, false, true≢false, IsTrue}
use Rattle.std.proofs.lemmas.Int.{ints, by_lt_z}
use borrow.Author.Differences.{up, down}
use Rattle.itpg_base.specs.Spans.{Span, Covers, IsCoalesced}
use Rattle.itpg_base.specs.Decided.{Decided}
use Rattle.interval_set.specs.Runs.{AreRuns}

module _ (S : ℤ → Type 0) (low high : ℤ) (from : (t : ℤ) → S t → low ≤ℤ t) (to : (t : ℤ) → S t → t ≤ℤ high) (decide : (t : ℤ) → Decided (S t)) where
  -- the runs of the moments from p on
  record Later (p : ℤ) (spans : List Span) : Type 0 where
    whole : (t : ℤ) → p ≤ℤ t → S t → Covers spans t
    only : (t : ℤ) → Covers spans t → S t
    late : (t : ℤ) → Covers spans t → p ≤ℤ t
    coalesced : IsCoalesced spans

  -- one more moment of the set
  further : (p : ℤ) (spans : List Span) → S p → Later (p +ℤ pos 1) spans → (spans' : List Span) × Later p spans'
  further p [] here l = (
    record { from = p; to = p } ∷ [],
    record {
      whole = λ t a q. by_lt_z p t (λ lt. absurd (l.whole t (omega (arith, ints)) q)) (λ le. inl (record { begun = a; going = le }));
      only = λ t c. ⊎_elim (λ w. let a = w.begun in let b = w.going in let e : p ≡ t = omega (arith, ints) in subst S e here) (λ n. absurd n) c;
      late = λ t c. ⊎_elim (λ w. w.begun) (λ n. absurd n) c;
      coalesced = (omega (arith, ints), tt, tt);
    },
  )
  further p (s ∷ rest) here l =
      let span : s.from ≤ℤ s.to = (l.coalesced).0 in
      let far = l.late s.from (inl (record { begun = omega (arith, ints); going = span })) in
      by_lt_z (p +ℤ pos 1) s.from
      (λ lt. (
        record { from = p; to = p } ∷ s ∷ rest,
        record {
          whole = λ t a q. by_lt_z p t (λ later. inr (l.whole t (omega (arith, ints)) q)) (λ le. inl (record { begun = a; going = le }));
          only = λ t c. ⊎_elim (λ w. let a = w.begun in let b = w.going in let e : p ≡ t = omega (arith, ints) in subst S e here) (λ n. l.only t n) c;
          late = λ t c. ⊎_elim (λ w. w.begun) (λ n. let m = l.late t n in omega (arith, ints)) c;
          coalesced = (omega (arith, ints), lt, l.coalesced);
        },
      ))
      (λ le. (
        record { from = p; to = s.to } ∷ rest,
        record {
          whole = λ t a q. by_lt_z p t
              (λ lt. ⊎_elim (λ w. let c = w.going in inl (record { begun = a; going = c })) (λ n. inr n) (l.whole t (omega (arith, ints)) q))
              (λ first. inl (record { begun = a; going = omega (arith, ints) }));
          only = λ t c. ⊎_elim
              (λ w. by_lt_z p t (λ lt. l.only t (inl (record { begun = omega (arith, ints); going = w.going }))) (λ first. let a = w.begun in let e : p ≡ t = omega (arith, ints) in subst S e here))
              (λ n. l.only t (inr n)) c;
          late = λ t c. ⊎_elim (λ w. w.begun) (λ n. let m = l.late t (inr n) in omega (arith, ints)) c;
          coalesced = (omega (arith, ints), (l.coalesced).1, (l.coalesced).2);
        },
      ))

  down_to : (n : ℕ) → (spans : List Span) × Later ((high +ℤ pos 1) -ℤ pos n) spans
  down_to zero = ([], record { whole = λ t a q. let b = to t q in omega (arith, ints); only = λ t c. absurd c; late = λ t c. absurd c; coalesced = tt })
  down_to (suc n) =
      let l = down_to n in
      let p : ℤ = (high +ℤ pos 1) -ℤ pos (suc n) in
      let next : (high +ℤ pos 1) -ℤ pos n ≡ p +ℤ pos 1 = omega (arith, ints) in
      let m = subst (λ (v : ℤ). Later v l.0) next l.1 in
      elim (decide p) [
        | inl here ↦ further p l.0 here m
        | inr none ↦ (
          l.0,
          record {
            whole = λ t a q. by_lt_z p t (λ lt. m.whole t (omega (arith, ints)) q) (λ le. let e : t ≡ p = omega (arith, ints) in absurd (none (subst S e q)));
            only = m.only;
            late = λ t c. let b = m.late t c in omega (arith, ints);
            coalesced = m.coalesced;
          },
        )
      ]

  pub runs_exist : (spans : List Span) × AreRuns S spans
  runs_exist =
      let l = down_to (suc (up high + down low)) in
      (l.0, record { whole = λ t q. let a = from t q in (l.1).whole t (omega (arith, ints)) q; only = (l.1).only; coalesced = (l.1).coalesced })

pub decide_test : (b : Bool) → Decided (IsTrue b)
decide_test true = inl refl
decide_test false = inr (λ h. true≢false (sym h))
