-- What is kept once a relation is kept at one node.
use Rattle.std.proofs.Common.{◌≡◌, ℕ, zero, suc, ◌<◌, ◌≤◌, List, [], ◌∷◌, slice_get, slice_set, Some, None, inl, inr, ◌⊎◌, Bool, true, false, refl, sym, ap, subst, ◌∙◌, arith}
use Rattle.std.specs.Prelude.{IsTrue}
use Rattle.itpg_base.specs.Graphs.{Graph}
use Rattle.relation_rows.specs.declared.rows.Row.{Row}
use Rattle.label_scope.specs.Members.{Member}
use Rattle.plan_cache.specs.Nodes.{PlanNode, Kept, Table}
use Rattle.plan_cache.specs.KeptRows.{rows_in, rows_kept, AllKept, Stays}
use Rattle.path_eval.specs.declared.basis.Ground.{Ground}
use Rattle.plan_cache.specs.RightRows.{IsRight}
use Rattle.path_eval.specs.Keeping.{IsReached, KeepsOnlyReached, KeptOrFull}
use Rattle.path_eval.specs.Filled.{IsRightAt, KeepsRight, KeepsAt}

set_other : (kept : List Kept) (i j : ℕ) (x : Kept) (rows : List Row) → slice_get (slice_set kept i x) j ≡ Some (Some rows) → ((i ≡ j) × (x ≡ Some rows)) ⊎ (slice_get kept j ≡ Some (Some rows))
set_other [] i j x rows e = inr e
set_other (k ∷ kept) zero zero x rows e = inl (refl, (let same : x ≡ Some rows = cc in same))
set_other (k ∷ kept) zero (suc j) x rows e = inr e
set_other (k ∷ kept) (suc i) zero x rows e = inr e
set_other (k ∷ kept) (suc i) (suc j) x rows e = elim (set_other kept i j x rows e) [ inl h ↦ inl (ap suc h.0, h.1) | inr h ↦ inr h ]

set_apart : (kept : List Kept) (i j : ℕ) (x : Kept) → i < j → slice_get (slice_set kept i x) j ≡ slice_get kept j
set_apart [] i j x l = refl
set_apart (k ∷ kept) i zero x l = absurd (let none : ⊥ = omega arith in none)
set_apart (k ∷ kept) zero (suc j) x l = refl
set_apart (k ∷ kept) (suc i) (suc j) x l = set_apart kept i j x (omega arith)

set_kept : (kept : List Kept) (i j : ℕ) (x : Kept) (rows : List Row) → slice_get kept i ≡ Some None → slice_get kept j ≡ Some (Some rows) → slice_get (slice_set kept i x) j ≡ Some (Some rows)
set_kept [] i j x rows e f = cc
set_kept (k ∷ kept) zero zero x rows e f = absurd (let none : ⊥ = cc in none)
set_kept (k ∷ kept) zero (suc j) x rows e f = f
set_kept (k ∷ kept) (suc i) zero x rows e f = f
set_kept (k ∷ kept) (suc i) (suc j) x rows e f = set_kept kept i j x rows e f

more_rows : (kept : List Kept) (i : ℕ) (rows : List Row) → slice_get kept i ≡ Some None → rows_kept kept ≤ rows_kept (slice_set kept i (Some rows))
more_rows [] i rows e = omega arith
more_rows (k ∷ kept) zero rows e = let none : k ≡ None = cc in let is : rows_in k ≡ 0 = ap rows_in none in omega arith
more_rows (k ∷ kept) (suc i) rows e = let r = more_rows kept i rows e in omega arith

-- what is kept is one thing
pub unwrapped : (x y : List Row) → (let o : Kept = Some x in o) ≡ Some y → x ≡ y
unwrapped x y e = cc

module _ (basis : Ground) (k : ℕ) where
  pub right_after : (old new : Table) → KeepsRight basis old → new.nodes ≡ old.nodes → KeepsAt basis old k new.kept → KeepsRight basis new
  right_after old new right same changes = subst (λ (v : List PlanNode). AllKept (IsRight basis.graph.now basis.max_rows) v new.kept) (sym same) (kept_right changes)
    where
      kept_right : KeepsAt basis old k new.kept → AllKept (IsRight basis.graph.now basis.max_rows) old.nodes new.kept
      kept_right (inl e) = subst (AllKept (IsRight basis.graph.now basis.max_rows) old.nodes) (sym e) right
      kept_right (inr h) = λ j rows e. elim (set_other old.kept k j (Some h.0) rows (subst (λ (v : List Kept). slice_get v j ≡ Some (Some rows)) h.2 e)) [
        | inl s ↦ subst (λ (v : ℕ). IsRightAt basis old.nodes v rows) s.0 (subst (IsRightAt basis old.nodes k) (unwrapped h.0 rows s.1) h.3)
        | inr f ↦ right j rows f
      ]

  module _ (old : Table) (new : List Kept) where
    pub stays_after : KeepsAt basis old k new → Stays old.kept new
    stays_after (inl e) = λ j rows f. subst (λ (v : List Kept). slice_get v j ≡ Some (Some rows)) (sym e) f
    stays_after (inr h) = λ j rows f. subst (λ (v : List Kept). slice_get v j ≡ Some (Some rows)) (sym h.2) (set_kept old.kept k j (Some h.0) rows h.1 f)

    only_after : (n : ℕ) (start : Table) → IsReached start.nodes start.kept n k → KeepsOnlyReached start n old.kept → KeepsAt basis old k new → KeepsOnlyReached start n new
    only_after n start reached only (inl e) = subst (KeepsOnlyReached start n) (sym e) only
    only_after n start reached only (inr h) = λ j rows e. elim (set_other old.kept k j (Some h.0) rows (subst (λ (v : List Kept). slice_get v j ≡ Some (Some rows)) h.2 e)) [
      | inl s ↦ inr (subst (IsReached start.nodes start.kept n) s.0 reached)
      | inr f ↦ only j rows f
    ]

    pub only_or : (n : ℕ) (b : Bool) (start : Table) → (IsTrue b → IsReached start.nodes start.kept n k) → (b ≡ false → new ≡ old.kept) → KeepsOnlyReached start n old.kept → KeepsAt basis old k new → KeepsOnlyReached start n new
    only_or n true start reached same only h = only_after n start (reached refl) only h
    only_or n false start reached same only h = subst (KeepsOnlyReached start n) (sym (same refl)) only

    pub later_after : (j : ℕ) → k < j → KeepsAt basis old k new → slice_get new j ≡ slice_get old.kept j
    later_after j l (inl e) = ap (λ (v : List Kept). slice_get v j) e
    later_after j l (inr h) = ap (λ (v : List Kept). slice_get v j) h.2 ∙ set_apart old.kept k j (Some h.0) l

    rows_after : KeepsAt basis old k new → rows_kept old.kept ≤ rows_kept new
    rows_after (inl e) = let f = ap rows_kept e in omega arith
    rows_after (inr h) = let f = ap rows_kept h.2 in let m = more_rows old.kept k h.0 h.1 in omega arith

    pub full_after : (g : Graph) (j : ℕ) (m : Member) → KeepsAt basis old k new → KeptOrFull g old.kept j m → KeptOrFull g new j m
    full_after g j m h (inl f) = inl (f.0, stays_after h j f.0 f.1)
    full_after g j m h (inr f) = inr (λ rows normal. let more = rows_after h in let full = f rows normal in omega arith)
