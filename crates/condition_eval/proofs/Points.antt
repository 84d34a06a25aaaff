-- The points of a good graph, and the moments at which a test holds of an object.
use Rattle.std.proofs.Common.{◌≡◌, ◌↔◌, inl, ⊎_elim, ℕ, ◌+◌, ◌<◌, ◌≤◌, ℤ, pos, ◌-ℤ◌, ◌≤ℤ◌, ◌<ℤ◌, List, [], ◌∷◌, ◌++◌, length, slice_index_or, take, append_assoc, append-nil, false, Option, Some, None, Result, Ok, Err, sym, ◌∙◌, ap, subst, arith}
use Rattle.std.proofs.lemmas.Int.{ints, clamps}
use Rattle.std.specs.Int.{int_min}
use Rattle.std.proofs.lemmas.List.{take_more, take_all, map-append}
use Rattle.std.specs.Prelude.{IfSome, IsSomeAnd, OnOk, int_le, option_map, option_to_list, slice_get, SomeIff}
use Rattle.itpg_base.specs.declared.object_number.ObjNo.{ObjNo}
use Rattle.itpg_base.specs.Spans.{Span, IsSpan, Within, Covers, IsCoalesced}
use Rattle.itpg_base.specs.Graphs.{Graph, Object, Begun, IsBegun, Good, ObjectIs, Stands, Exists, InHorizon, IsPoint, Valued, RunsHave, AreRunsOfValues}
use Rattle.itpg_base.specs.Points.{Point, IsAt}
use Rattle.itpg_base.proofs.Objects.{there, here, same_some}
use Rattle.interval_set.proofs.Unique.{runs_alike}
use Rattle.interval_set.proofs.WithValue.{spans_with, spans_runs, spans_more as one_further}
use Rattle.zone_core.specs.Zone.{Within as IsNearZero, moment_reach}
use Rattle.path_ast.specs.Terms.{TestTerm}
use Rattle.path_ast.specs.Meaning.{Sat}
use Rattle.relation_rows.specs.declared.times.OneRow.{OneRow}
use Rattle.condition_eval.specs.Tested.{HoldsAt, HasHorizon}
use Rattle.condition_eval.specs.Walking.{HasRuns, over_spans}
use Rattle.condition_eval.proofs.Marked.{point}

-- a moment of the horizon of a good graph is near zero
pub near_point : (g : Graph) → Good g → (x : Point) → IsAt g x → IsNearZero moment_reach x.moment
near_point g good x at = of_begun g.begun good.begun at.within
  where
    of_begun : (b : Option Begun) → IfSome b IsBegun → IsSomeAnd b (λ v. Within x.moment v.horizon) → IsNearZero moment_reach x.moment
    of_begun None h w = absurd w
    of_begun (Some b) h w = let from = h.from in let to = h.to in record { above = omega (arith, ints); below = omega (arith, ints) }

pub in_horizon : (g : Graph) (horizon : Span) → HasHorizon g horizon → (t : ℤ) → Within t horizon ↔ InHorizon g t
in_horizon g horizon e t = of_begun g.begun e
  where
    of_begun : (b : Option Begun) → option_map (λ (v : Begun). v.horizon) b ≡ Some horizon → Within t horizon ↔ IsSomeAnd b (λ v. Within t v.horizon)
    of_begun None e = let none : ⊥ = cc in absurd none
    of_begun (Some b) e = let same : b.horizon ≡ horizon = cc in (λ w. subst (λ (v : Span). Within t v) (sym same) w, λ w. subst (λ (v : Span). Within t v) same w)

-- ---- the moments at which a test holds of an object

-- the runs of moments of a fact are those of another that is the same
pub runs_as : (o : ObjNo) (S T : ℤ → Type 0) (old new : List OneRow) → ((t : ℤ) → S t → T t) → ((t : ℤ) → T t → S t) → HasRuns o S old new → HasRuns o T old new
runs_as o S T old new f g h = record { spans = h.spans; added = h.added; runs = runs_alike S T h.spans f g h.runs }

-- no span
pub no_runs : (o : ObjNo) (S : ℤ → Type 0) (old : List OneRow) → ((t : ℤ) → S t → ⊥) → HasRuns o S old old
no_runs o S old none = record { spans = []; added = sym (append-nil old); runs = record { whole = λ t h. none t h; only = λ t h. absurd h; coalesced = tt } }

-- one span
pub one_run : (o : ObjNo) (S : ℤ → Type 0) (old new : List OneRow) (s : Span) → IsSpan s → ((t : ℤ) → S t → Within t s) → ((t : ℤ) → Within t s → S t) → new ≡ old ++ (record { object = o; span = s }) ∷ [] → HasRuns o S old new
one_run o S old new s span f g is = record {
  spans = s ∷ [];
  added = is;
  runs = record { whole = λ t h. inl (f t h); only = λ t h. ⊎_elim (λ w. g t w) (λ n. absurd n) h; coalesced = (span, tt, tt) };
}

pub on_ok : {X E : Type 0} (P Q : Type 0) (r : Result X E) → (P → Q) → OnOk r P → OnOk r Q
on_ok P Q (Ok x) f h = f h
on_ok P Q (Err e) f h = tt

-- a test that asks for the object alone
module _ (g : Graph) (horizon : Span) (begun : HasHorizon g horizon) (o : ObjNo) (stands : Stands g o.0) (c : TestTerm) where
  pub at_horizon : (t : ℤ) → Within t horizon → IsAt g (point o t)
  at_horizon t w = record { stands = stands; within = (in_horizon g horizon begun t).0 w }

  pub whole_runs : (F : Type 0) → ((t : ℤ) → F ↔ Sat c g (point o t)) → (old new : List OneRow) → HasRuns o (λ t. Within t horizon × F) old new → HasRuns o (λ t. HoldsAt c g (point o t)) old new
  whole_runs F same old new h = runs_as o (λ t. Within t horizon × F) (λ t. HoldsAt c g (point o t)) old new
      (λ t k. (at_horizon t k.0, (same t).0 k.1))
      (λ t k. ((in_horizon g horizon begun t).1 (let at = k.0 in at.within), (same t).1 k.1))
      h

-- a test of which the moments are known
pub point_runs : (g : Graph) (o : ObjNo) (c : TestTerm) (S : ℤ → Type 0) → ((t : ℤ) → S t ↔ Sat c g (point o t)) → ((t : ℤ) → S t → IsPoint g o.0 t) → (old new : List OneRow) → HasRuns o S old new → HasRuns o (λ t. HoldsAt c g (point o t)) old new
point_runs g o c S same at old new h = runs_as o S (λ t. HoldsAt c g (point o t)) old new (λ t k. (at t k, (same t).0 k)) (λ t k. (same t).1 k.1) h

-- the moments of an object's life
pub life_same : (g : Graph) (o : ℕ) (live : List Span) → ObjectIs g o (λ x. live ≡ x.live) → (t : ℤ) → Covers live t ↔ Exists g o t
life_same g o live is t =
    let w = there g.objects o _ is in (
      λ c. here g.objects o _ w.0 w.1 (subst (λ (v : List Span). Covers v t) w.2 c),
      λ h. let k = there g.objects o _ h in
          subst (λ (v : List Span). Covers v t) (sym w.2) (subst (λ (v : Object). Covers v.live t) (same_some k.0 w.0 (slice_get g.objects o) k.1 w.1) k.2),
    )

-- ---- spans and runs, one after the other

pub spans_start : (o : ObjNo) (spans : List Span) (old : List OneRow) → old ≡ old ++ over_spans o (take 0 spans)
spans_start o [] old = sym (append-nil old)
spans_start o (s ∷ ss) old = sym (append-nil old)

over_append : (o : ObjNo) (xs : List Span) (s : Span) (old : List OneRow) → old ++ over_spans o (xs ++ s ∷ []) ≡ (old ++ over_spans o xs) ++ (record { object = o; span = s }) ∷ []
over_append o xs s old =
    ap (λ (v : List OneRow). old ++ v) (map-append (λ (v : Span). record { object = o; span = v }) xs (s ∷ []))
    ∙ sym (append_assoc old (over_spans o xs) ((record { object = o; span = s }) ∷ []))

pub spans_more : (o : ObjNo) (spans : List Span) (old now next : List OneRow) (i : ℕ) (s : Span) → i < length spans → s ≡ slice_index_or spans i s → now ≡ old ++ over_spans o (take i spans) → next ≡ now ++ (record { object = o; span = s }) ∷ []
    → next ≡ old ++ over_spans o (take (i + 1) spans)
spans_more o spans old now next i s lt read is pushed =
    let more : take (i + 1) spans ≡ take i spans ++ s ∷ [] = take_more spans i s lt ∙ ap (λ (v : Span). take i spans ++ v ∷ []) (sym read) in
    pushed ∙ ap (λ (v : List OneRow). v ++ (record { object = o; span = s }) ∷ []) is
    ∙ sym (over_append o (take i spans) s old) ∙ ap (λ (v : List Span). old ++ over_spans o v) (sym more)

pub spans_end : (o : ObjNo) (spans : List Span) (old now : List OneRow) (i : ℕ) → IsCoalesced spans → length spans ≤ i → now ≡ old ++ over_spans o (take i spans) → HasRuns o (Covers spans) old now
spans_end o spans old now i coalesced le is = record {
  spans = spans;
  added = is ∙ ap (λ (v : List Span). old ++ over_spans o v) (take_all i spans le);
  runs = record { whole = λ t h. h; only = λ t h. h; coalesced = coalesced };
}

module _ (o : ObjNo) (value : List ℕ) (runs : List Valued) (old : List OneRow) where
  pub runs_start : old ≡ old ++ over_spans o (spans_with value (take 0 runs))
  runs_start = none runs
    where
      none : (xs : List Valued) → old ≡ old ++ over_spans o (spans_with value (take 0 xs))
      none [] = sym (append-nil old)
      none (x ∷ xs) = sym (append-nil old)

  module _ (now : List OneRow) (i : ℕ) (found : Option Span) (lt : i < length runs) (says : (run : Valued) → slice_get runs i ≡ Some run → SomeIff found (run.value ≡ value) run.span) (is : now ≡ old ++ over_spans o (spans_with value (take i runs))) where
    more : spans_with value (take (i + 1) runs) ≡ spans_with value (take i runs) ++ option_to_list found
    more = one_further value runs i found lt says

    pub runs_taken : (next : List OneRow) (s : Span) → found ≡ Some s → next ≡ now ++ (record { object = o; span = s }) ∷ [] → next ≡ old ++ over_spans o (spans_with value (take (i + 1) runs))
    runs_taken next s there pushed =
        let all : spans_with value (take (i + 1) runs) ≡ spans_with value (take i runs) ++ s ∷ [] = more ∙ ap (λ (v : Option Span). spans_with value (take i runs) ++ option_to_list v) there in
        pushed ∙ ap (λ (v : List OneRow). v ++ (record { object = o; span = s }) ∷ []) is
        ∙ sym (over_append o (spans_with value (take i runs)) s old) ∙ ap (λ (v : List Span). old ++ over_spans o v) (sym all)

    pub runs_left : found ≡ None → now ≡ old ++ over_spans o (spans_with value (take (i + 1) runs))
    runs_left missing =
        let all : spans_with value (take (i + 1) runs) ≡ spans_with value (take i runs) =
        more ∙ ap (λ (v : Option Span). spans_with value (take i runs) ++ option_to_list v) missing ∙ append-nil (spans_with value (take i runs)) in
        is ∙ ap (λ (v : List Span). old ++ over_spans o v) (sym all)

  pub runs_end : (now : List OneRow) (i : ℕ) → AreRunsOfValues runs → length runs ≤ i → now ≡ old ++ over_spans o (spans_with value (take i runs)) → HasRuns o (λ t. RunsHave runs t value) old now
  runs_end now i coalesced le is = record {
    spans = spans_with value runs;
    added = is ∙ ap (λ (v : List Valued). old ++ over_spans o (spans_with value v)) (take_all i runs le);
    runs = spans_runs value runs coalesced;
  }

-- ---- what is left of a span below a number

pub below_same : (s early : Span) (k : ℤ) → early.from ≡ s.from → early.to ≡ int_min s.to (k -ℤ pos 1) → (t : ℤ) → Within t early ↔ (Within t s × (t <ℤ k))
below_same s early k e f t = (
  λ w. let begun = w.begun in let going = w.going in (record { begun = omega (arith, ints, clamps); going = omega (arith, ints, clamps) }, omega (arith, ints, clamps)),
  λ h. let w = h.0 in let begun = w.begun in let going = w.going in let lt = h.1 in record { begun = omega (arith, ints, clamps); going = omega (arith, ints, clamps) },
)

pub last_ordered : (from to k last : ℤ) → from ≤ℤ to → from <ℤ k → last ≡ int_min to (k -ℤ pos 1) → from ≤ℤ last
last_ordered from to k last a b e = omega (arith, ints, clamps)

pub above_of : (k from : ℤ) → int_le k from ≡ false → from <ℤ k
above_of k from e = grind (arith, ints)

pub below_run : (o : ObjNo) (s early : Span) (k : ℤ) → IsSpan early → early.from ≡ s.from → early.to ≡ int_min s.to (k -ℤ pos 1) → (old next : List OneRow) → next ≡ old ++ (record { object = o; span = early }) ∷ []
    → HasRuns o (λ t. Within t s × (t <ℤ k)) old next
below_run o s early k ordered e f old next is =
    one_run o (λ t. Within t s × (t <ℤ k)) old next early ordered (λ t h. (below_same s early k e f t).1 h) (λ t w. (below_same s early k e f t).0 w) is
