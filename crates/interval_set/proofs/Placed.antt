-- The moments of one value: the spans of the runs that have it.
use Rattle.std.proofs.Common.{◌≡◌, ◌↔◌, inl, inr, ℤ, pos, ◌+ℤ◌, ◌<ℤ◌, List, [], ◌∷◌, Bool, true, false, cond, map, filter, refl, sym, subst, true≢false, ◌∙◌}
use Rattle.itpg_base.specs.Spans.{Span, Covers, IsCoalesced}
use Rattle.itpg_base.specs.Words.{Word}
use Rattle.itpg_base.specs.Graphs.{Valued, RunsHave, AreRunsOfValues}
use Rattle.interval_set.specs.Runs.{AreRuns}
use Rattle.itpg_base.specs.Lists.{Among}
use Rattle.interval_set.proofs.Coalesced.{starts_apart}
use Rattle.interval_set.proofs.Rising.{precedes_each}

module _ (value : Word) (test : Valued → Bool) (same : (r : Valued) → (test r ≡ true) ↔ (r.value ≡ value)) where
  -- the spans of the runs of this value
  abbrev placed : List Valued → List Span
  placed xs = map (λ (r : Valued). r.span) (filter test xs)

  among_placed : (xs : List Valued) (s : Span) → Among (placed xs) s → (r : Valued) × Among xs r × (r.value ≡ value) × (r.span ≡ s)
  among_placed [] s m = absurd m
  among_placed (x ∷ xs) s m = by_test (test x) refl m (λ n. among_placed xs s n)
    where
      by_test : (b : Bool) → test x ≡ b → Among (map (λ (r : Valued). r.span) (cond b (x ∷ filter test xs) (filter test xs))) s → (Among (placed xs) s → (r : Valued) × Among xs r × (r.value ≡ value) × (r.span ≡ s)) → (r : Valued) × Among (x ∷ xs) r × (r.value ≡ value) × (r.span ≡ s)
      by_test true e (inl f) rest = (x, inl refl, (same x).0 e, f)
      by_test true e (inr n) rest = let p = rest n in (p.0, inr p.1, p.2, p.3)
      by_test false e n rest = let p = rest n in (p.0, inr p.1, p.2, p.3)

  placed_coalesced : (xs : List Valued) → AreRunsOfValues xs → IsCoalesced (placed xs)
  placed_coalesced [] c = tt
  placed_coalesced (x ∷ xs) c = by_test (test x) refl (placed_coalesced xs c.2)
    where
      by_test : (b : Bool) → test x ≡ b → IsCoalesced (placed xs) → IsCoalesced (map (λ (r : Valued). r.span) (cond b (x ∷ filter test xs) (filter test xs)))
      by_test true e rest = (
        c.0,
        starts_apart (x.span).to (placed xs) (λ s m.
            let r = among_placed xs s m in
            let p = precedes_each x xs r.0 c.2 c.1 r.1 in
            subst (λ (z : Span). ((x.span).to +ℤ pos 1) <ℤ z.from) r.3 (p.gap ((same x).0 e ∙ sym r.2))),
        rest,
      )
      by_test false e rest = rest

  placed_covers : (xs : List Valued) (t : ℤ) → RunsHave xs t value → Covers (placed xs) t
  placed_covers [] t h = absurd h
  placed_covers (x ∷ xs) t h = by_test (test x) refl h (λ n. placed_covers xs t n)
    where
      by_test : (b : Bool) → test x ≡ b → RunsHave (x ∷ xs) t value → (RunsHave xs t value → Covers (placed xs) t) → Covers (map (λ (r : Valued). r.span) (cond b (x ∷ filter test xs) (filter test xs))) t
      by_test true e (inl w) rest = inl w.0
      by_test true e (inr n) rest = inr (rest n)
      by_test false e (inl w) rest = absurd (true≢false (sym ((same x).1 w.1) ∙ e))
      by_test false e (inr n) rest = rest n

  has_placed : (xs : List Valued) (t : ℤ) → Covers (placed xs) t → RunsHave xs t value
  has_placed [] t c = absurd c
  has_placed (x ∷ xs) t c = by_test (test x) refl c (λ n. has_placed xs t n)
    where
      by_test : (b : Bool) → test x ≡ b → Covers (map (λ (r : Valued). r.span) (cond b (x ∷ filter test xs) (filter test xs))) t → (Covers (placed xs) t → RunsHave xs t value) → RunsHave (x ∷ xs) t value
      by_test true e (inl w) rest = inl (w, (same x).0 e)
      by_test true e (inr n) rest = inr (rest n)
      by_test false e n rest = inr (rest n)

  pub placed_runs : (xs : List Valued) → AreRunsOfValues xs → AreRuns (λ t. RunsHave xs t value) (placed xs)
  placed_runs xs c = record { whole = placed_covers xs; only = has_placed xs; coalesced = placed_coalesced xs c }
