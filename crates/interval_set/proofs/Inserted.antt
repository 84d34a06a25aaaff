-- A run of another value put among runs that leave room for it: there is one run more.
use Rattle.std.proofs.Common.{◌≡◌, ◌⊎◌, inl, inr, ⊎_elim, suc, ℤ, ◌≤ℤ◌, ◌<ℤ◌, List, [], ◌∷◌, length, refl, sym, subst, ap, arith, ◌∙◌}
use Rattle.std.specs.Prelude.{◌≢◌}
use Rattle.std.specs.Int.{int_max}
use Rattle.std.proofs.lemmas.Int.{ints, clamps, by_lt_z}
use Rattle.itpg_base.specs.Spans.{Span, IsSpan, Within}
use Rattle.itpg_base.specs.Words.{Word}
use Rattle.itpg_base.specs.Graphs.{Valued, RunsHave, AreRunsOfValues}
use Rattle.itpg_base.specs.Lists.{Among}
use Rattle.interval_set.specs.Runs.{AreRunsOf, HasPut, HasCleared}
use Rattle.interval_set.proofs.Rising.{Precedes, has_from, has_by, each_run_span, precedes_each, runs_apart}
use Rattle.interval_set.proofs.UniqueValues.{runs_of_unique}

-- the run has another value than the new one and no moment of it
record IsOther (new run : Valued) : Type 0 where
  pub apart : (run.span.to <ℤ new.span.from) ⊎ (new.span.to <ℤ run.span.from)
  pub differs : run.value ≢ new.value

-- the second list is the first with the new run put among it
record Inserted (new : Valued) (xs ys : List Valued) : Type 0 where
  pub longer : length ys ≡ suc (length xs)
  pub runs : AreRunsOfValues ys
  pub own : Among ys new
  pub kept : (run : Valued) → Among xs run → Among ys run
  pub only : (run : Valued) → Among ys run → (run ≡ new) ⊎ Among xs run

module _ (new : Valued) (span : IsSpan new.span) where
  inserted : (xs : List Valued) → AreRunsOfValues xs → ((run : Valued) → Among xs run → IsOther new run) → (ys : List Valued) × Inserted new xs ys
  inserted [] c other = (new ∷ [], record { longer = refl; runs = (span, tt, tt); own = inl refl; kept = λ run m. absurd m; only = λ run m. ⊎_elim (λ e. inl (sym e)) (λ a. absurd a) m })
  inserted (x ∷ xs) c other = by_lt_z x.span.to new.span.from (behind (inserted xs c.2 (λ run m. other run (inr m)))) before
    where
      behind : (ys : List Valued) × Inserted new xs ys → x.span.to <ℤ new.span.from → (ys : List Valued) × Inserted new (x ∷ xs) ys
      behind r lt = let i = r.1 in (
        x ∷ r.0,
        record {
          longer = ap suc i.longer;
          runs = (
            c.0,
            runs_apart x r.0 (λ run m. ⊎_elim
                (λ e. subst (Precedes x) (sym e) (record { rise = lt; gap = λ same. absurd ((other x (inl refl)).differs same) }))
                (λ a. precedes_each x xs run c.2 c.1 a) (i.only run m)),
            i.runs,
          );
          own = inr i.own;
          kept = λ run m. ⊎_elim (λ e. inl e) (λ a. inr (i.kept run a)) m;
          only = λ run m. ⊎_elim (λ e. inr (inl e)) (λ a. ⊎_elim (λ e. inl e) (λ b. inr (inr b)) (i.only run a)) m;
        },
      )

      before : new.span.from ≤ℤ x.span.to → (ys : List Valued) × Inserted new (x ∷ xs) ys
      before le =
          let o = other x (inl refl) in
          let late : new.span.to <ℤ x.span.from = ⊎_elim (λ early. absurd (omega (arith, ints))) (λ late. late) o.apart in (
            new ∷ x ∷ xs,
            record {
              longer = refl;
              runs = (span, (late, λ same. absurd (o.differs (sym same))), c);
              own = inl refl;
              kept = λ run m. inr m;
              only = λ run m. ⊎_elim (λ e. inl (sym e)) (λ a. inr a) m;
            },
          )

module _ (xs cs ps : List Valued) (s : Span) (value : Word) (span : IsSpan s) (none : (t : ℤ) → RunsHave xs t value → ⊥) (cleared : AreRunsOf (HasCleared xs s) cs) (put : AreRunsOf (HasPut xs s value) ps) where
  abbrev new : Valued
  new = record { span = s; value = value }

  other : (run : Valued) → Among cs run → IsOther new run
  other run m =
      let own : run.span.from ≤ℤ run.span.to = each_run_span cs run cleared.coalesced m in
      let has = λ (t : ℤ) (w : Within t run.span). cleared.only t run.value (has_from cs run t run.value m w refl) in
      record {
        apart = by_lt_z run.span.to s.from (λ lt. inl lt) (λ le. by_lt_z s.to run.span.from (λ lt. inr lt) (λ le'.
            let t = int_max run.span.from s.from in
            let s_span : s.from ≤ℤ s.to = span in
            absurd ((has t (record { begun = omega (arith, ints, clamps); going = omega (arith, ints, clamps) })).1 (record { begun = omega (arith, ints, clamps); going = omega (arith, ints, clamps) }))));
        differs = λ same. none run.span.from (subst (λ (v : Word). RunsHave xs run.span.from v) same (has run.span.from (record { begun = omega (arith, ints); going = own })).0);
      }

  made : (ys : List Valued) × Inserted new cs ys
  made = inserted new span cs cleared.coalesced other

  made_runs : AreRunsOf (HasPut xs s value) made.0
  made_runs =
      let i = made.1 in
      record {
        whole = λ t v h. ⊎_elim (λ w. has_from made.0 new t v i.own w.0 (sym w.1))
            (λ k. let m = has_by cs t v (cleared.whole t v k) in has_from made.0 m.0 t v (i.kept m.0 m.1) m.2 m.3) h;
        only = λ t v h. let m = has_by made.0 t v h in
            ⊎_elim (λ e. inl (subst (λ (r : Valued). Within t r.span) e m.2, sym m.3 ∙ ap (λ (r : Valued). r.value) e))
            (λ a. inr (cleared.only t v (has_from cs m.0 t v a m.2 m.3))) (i.only m.0 m.1);
        coalesced = i.runs;
      }

  -- a value that the runs don't have is one run more than what is left beside it
  pub one_more : suc (length cs) ≡ length ps
  one_more = let i = made.1 in sym i.longer ∙ ap length (runs_of_unique (HasPut xs s value) made.0 ps made_runs put)
