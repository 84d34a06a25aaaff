-- Whether a family fits after a change.
use Rattle.std.proofs.Common.{◌≡◌, ◌↔◌, ℕ, ◌<◌, ◌≤◌, ℤ, List, [], ◌∷◌, ◌⊎◌, inl, inr, ⊎_elim, length, Bool, true, false, true≢false, sym, ap, subst, arith, ◌∙◌}
use Rattle.std.proofs.lemmas.Bool.{cases_lt}
use Rattle.itpg_base.specs.Words.{Word}
use Rattle.itpg_base.specs.Spans.{Span, IsSpan, Within, Covers}
use Rattle.itpg_base.specs.declared.limits.TheConstants.{MAX_SPANS}
use Rattle.itpg_base.specs.Graphs.{Graph, Valued, RunsHave, Val, Exists, ObjectIs}
use Rattle.interval_set.specs.Runs.{AreRuns, AreRunsOf, HasPut, HasCleared}
use Rattle.interval_set.proofs.UniqueValues.{runs_of_unique}
use Rattle.interval_set.proofs.Changed.{joined_exists, put_exists, clear_exists}
use Rattle.itpg_graph.specs.Changes.{FitFamily}
use Rattle.itpg_graph.specs.Families.{ValOutside, ValPut, HasCutFamily, FitPut, FitClear, HasProperty}
use Rattle.itpg_graph.proofs.Parts.{some_value}
use Rattle.itpg_graph.proofs.Cutting.{no_runs}
use Rattle.itpg_graph.proofs.Asked.{alike_put, put_alike, alike_clear}
use Rattle.itpg_edit.specs.Facts.{AreManySpans, AreManyRuns, AreManyCut}
use Rattle.itpg_edit.proofs.Moments.{alike_joined, joined_alike}

-- a list is within a limit where a test for more says so
within_by : {test : Bool} (most count : ℕ) → (test ≡ true) ↔ (most < count) → test ≡ false → count ≤ most
within_by most count told is = ⊎_elim (λ more. absurd (true≢false (sym (told.1 more) ∙ is))) (λ le. le) (cases_lt most count)

-- existence after a join
module _ (g : Graph) (o : ℕ) (live : List Span) (s : Span) (is : ObjectIs g o (λ x. live ≡ x.live)) (beyond : Bool) (told : (spans : List Span) → AreRuns (λ t. Covers live t ⊎ Within t s) spans → (beyond ≡ true) ↔ (MAX_SPANS < length spans)) where
  pub joins_many : beyond ≡ true → AreManySpans (λ t. Exists g o t ⊎ Within t s)
  joins_many many =
      let r = joined_exists live s in
      record { spans = r.0; are = alike_joined g o live is s r.0 r.1; many = (told r.0 r.1).0 many }

  pub joins_few : beyond ≡ false → FitFamily g o s
  joins_few few = λ spans runs. within_by MAX_SPANS (length spans) (told spans (joined_alike g o live is s spans runs)) few

-- a wide family after a cut
pub cuts_many : (g : Graph) (o : ℕ) (s : Span) (n : ℕ) → HasCutFamily g o s n → MAX_SPANS < n → AreManyCut g o s
cuts_many g o s n family many = elim family [
  | inl live ↦ inl (record { spans = live.0; are = live.1; many = (let e = live.2 in omega arith) })
  | inr prop ↦ inr (prop.0, record { runs = prop.1; are = prop.2; many = (let e = prop.3 in omega arith) })
]

-- the values of a property that has some
module _ (g : Graph) (o : ℕ) (prop : Word) (values : List Valued) (s : Span) (are : AreRunsOf (Val g o prop) values) where
  module _ (new : Word) (beyond : Bool) (told : (runs : List Valued) → AreRunsOf (HasPut values s new) runs → (beyond ≡ true) ↔ (MAX_SPANS < length runs)) where
    pub puts_many : beyond ≡ true → AreManyRuns (ValPut g o s new prop)
    puts_many many =
        let r = put_exists values s new are.coalesced in
        record { runs = r.0; are = alike_put g o prop values are s new r.0 r.1; many = (told r.0 r.1).0 many }

    pub puts_few : beyond ≡ false → FitPut g o prop new s
    puts_few few = λ runs fit. within_by MAX_SPANS (length runs) (told runs (put_alike g o prop values are s new runs fit)) few

  module _ (count : ℕ) (counted : (runs : List Valued) → AreRunsOf (HasCleared values s) runs → count ≡ length runs) where
    pub clears_many : MAX_SPANS < count → AreManyRuns (ValOutside g o s prop)
    clears_many many =
        let r = clear_exists values s are.coalesced in
        let c = counted r.0 r.1 in
        record { runs = r.0; are = alike_clear g o prop values are s r.0 r.1; many = omega arith }

  -- it has one, since it isn't missing
  pub has_property : (((t : ℤ) (v : Word) → ¬ Val g o prop t v) → ⊥) → HasProperty g o prop
  has_property some =
      let first = some_value values are.coalesced (λ e. some (λ t v h. subst (λ xs. RunsHave xs t v) e (are.whole t v h))) in
      (first.0, first.1, are.only first.0 first.1 first.2)

-- a property that has no value
module _ (g : Graph) (o : ℕ) (prop : Word) (s : Span) (none : (t : ℤ) (v : Word) → ¬ Val g o prop t v) where
  pub puts_first : (new : Word) → IsSpan s → FitPut g o prop new s
  puts_first new span = λ runs fit.
      let one : Valued = record { span = s; value = new } in
      let alone : AreRunsOf (ValPut g o s new prop) (one ∷ []) = record {
        whole = λ t v h. ⊎_elim (λ w. inl (w.0, sym w.1)) (λ k. absurd (none t v k.0)) h;
        only = λ t v h. ⊎_elim (λ w. inl (w.0, sym w.1)) (λ k. absurd k) h;
        coalesced = (span, tt, tt);
      } in
      let same : runs ≡ one ∷ [] = runs_of_unique (ValPut g o s new prop) runs (one ∷ []) fit alone in
      let size : length runs ≡ 1 = ap length same in
      omega arith

  pub clears_none : FitClear g o prop s
  clears_none = λ runs fit.
      let size : length runs ≡ 0 = ap length (no_runs (ValOutside g o s prop) runs fit (λ t v h. none t v h.0)) in
      omega arith
