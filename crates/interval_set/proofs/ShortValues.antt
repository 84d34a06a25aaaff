-- Runs of short values, and what a change makes of them.
use Rattle.std.proofs.Common.{◌≡◌, ⊎_elim, ℤ, ◌≤◌, ◌<◌, List, length, true, false, true≢false, sym, subst, arith, Result, Ok, Err, OnOk, OnErr}
use Rattle.std.proofs.lemmas.Bool.{cases_lt}
use Rattle.itpg_base.specs.Spans.{Span}
use Rattle.itpg_base.specs.Words.{Word}
use Rattle.itpg_base.specs.Graphs.{Valued, RunsHave, AreRunsOfValues}
use Rattle.itpg_base.specs.declared.short_name.TheConstants.{MAX_SHORT}
use Rattle.interval_set.specs.Runs.{AreRunsOf, HasPut, HasCleared}
use Rattle.interval_set.specs.KeptRuns.{HaveShort}

-- the list of a call is coalesced however it ends
pub kept_runs : {X E : Type 0} (H : ℤ → Word → Type 0) (xs ys : List Valued) (r : Result X E) → AreRunsOfValues xs → OnOk r (AreRunsOf H ys) → OnErr r (ys ≡ xs) → AreRunsOfValues ys
kept_runs H xs ys (Ok x) c ok err = ok.coalesced
kept_runs H xs ys (Err e) c ok err = subst AreRunsOfValues (sym err) c

-- and has short values where all that it may have are short
pub kept_short : {X E : Type 0} (H : ℤ → Word → Type 0) (xs ys : List Valued) (r : Result X E) → ((t : ℤ) (value : Word) → H t value → length value ≤ MAX_SHORT) → HaveShort xs → OnOk r (AreRunsOf H ys) → OnErr r (ys ≡ xs) → HaveShort ys
kept_short H xs ys (Ok x) few short ok err = λ t value h. few t value (ok.only t value h)
kept_short H xs ys (Err e) few short ok err = subst HaveShort (sym err) short

pub short_cleared : (xs : List Valued) (s : Span) → HaveShort xs → (t : ℤ) (value : Word) → HasCleared xs s t value → length value ≤ MAX_SHORT
short_cleared xs s short t value h = short t value h.0

pub short_put : (xs : List Valued) (s : Span) (new : Word) → length new ≤ MAX_SHORT → HaveShort xs → (t : ℤ) (value : Word) → HasPut xs s new t value → length value ≤ MAX_SHORT
short_put xs s new few short t value h = ⊎_elim (λ n. subst (λ (v : Word). length v ≤ MAX_SHORT) (sym n.1) few) (λ n. short t value n.0) h

pub short_by : (value : Word) → (MAX_SHORT < length value → true ≡ false) → length value ≤ MAX_SHORT
short_by value never = ⊎_elim (λ long. absurd (true≢false (never long))) (λ le. le) (cases_lt MAX_SHORT (length value))

-- no run has a longer value
pub none_longer : (xs : List Valued) (new : Word) → HaveShort xs → MAX_SHORT < length new → (t : ℤ) → RunsHave xs t new → ⊥
none_longer xs new short long t h = let few = short t new h in omega arith
