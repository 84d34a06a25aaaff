-- What stays kept when an edit is forgotten, and that it is right on the graph after it.
use Rattle.std.proofs.Common.{◌≡◌, ◌↔◌, ℕ, zero, suc, List, [], ◌∷◌, length, slice_get, Option, Some, None, refl, sym, ap, subst, ◌∙◌}
use Rattle.std.specs.Prelude.{IsSomeAnd}
use Rattle.itpg_base.specs.declared.touch.Touch.{Touch}
use Rattle.label_scope.specs.Members.{Member}
use Rattle.relation_rows.specs.declared.rows.Row.{Row}
use Rattle.label_scope.specs.declared.footprint.Footprint.{Footprint}
use Rattle.label_scope.specs.Touching.{Meets}
use Rattle.plan_cache.specs.Nodes.{PlanNode, Kept}
use Rattle.plan_cache.specs.Footprints.{footprint_of, footprints_of}
use Rattle.plan_cache.specs.KeptRows.{ForgetsAt, Forgets, AllKept}

module _ (touch : Touch) where
  -- what happened at a place
  forgets_at : (feet : List Footprint) (old new : List Kept) (k : ℕ) (x : Kept) → Forgets touch feet old new → slice_get new k ≡ Some x
      → (f : Footprint) × (o : Kept) × (slice_get feet k ≡ Some f) × (slice_get old k ≡ Some o) × ForgetsAt touch f o x
  forgets_at [] [] [] k x h e = cc
  forgets_at [] [] (y ∷ new) k x h e = absurd h
  forgets_at [] (o ∷ old) new k x h e = absurd h
  forgets_at (f ∷ feet) [] new k x h e = absurd h
  forgets_at (f ∷ feet) (o ∷ old) [] k x h e = absurd h
  forgets_at (f ∷ feet) (o ∷ old) (y ∷ new) zero x h e = (f, o, refl, refl, subst (ForgetsAt touch f o) (let same : y ≡ x = cc in same) h.0)
  forgets_at (f ∷ feet) (o ∷ old) (y ∷ new) (suc k) x h e = forgets_at feet old new k x h.1 e

  -- what is kept was kept, and its footprint isn't met
  pub still_kept : (feet : List Footprint) (old new : List Kept) (k : ℕ) (rows : List Row) → Forgets touch feet old new → slice_get new k ≡ Some (Some rows)
      → (f : Footprint) × (slice_get feet k ≡ Some f) × (¬ Meets f touch) × (slice_get old k ≡ Some (Some rows))
  still_kept feet old new k rows h e =
      let at = forgets_at feet old new k (Some rows) h e in
      let not : ¬ Meets at.0 touch = λ m. (let gone = at.4.gone m in let none : ⊥ = cc in none) in
      (at.0, at.2, not, at.3 ∙ ap Some (sym (at.4.stays not)))

  -- so each kept relation is right after the edit, where the edit changes nothing for members whose footprint it doesn't meet
  pub right_forgotten : (R Q : Member → List Row → Type 0) (nodes : List PlanNode) (feet : List Footprint) (old new : List Kept)
      → ((k : ℕ) (n : PlanNode) (f : Footprint) (rows : List Row) → slice_get nodes k ≡ Some n → slice_get feet k ≡ Some f → ¬ Meets f touch → R n.member rows → Q n.member rows)
      → AllKept R nodes old → Forgets touch feet old new → AllKept Q nodes new
  right_forgotten R Q nodes feet old new same right h = λ k rows e.
      let s = still_kept feet old new k rows h e in
      let n = some_node (λ v. R v.member rows) (slice_get nodes k) (right k rows s.3) in
      subst (λ (v : Option PlanNode). IsSomeAnd v (λ w. Q w.member rows)) (sym n.1) (same k n.0 s.0 rows n.1 s.1 s.2 n.2)
    where
      some_node : (P : PlanNode → Type 0) (o : Option PlanNode) → IsSomeAnd o P → (n : PlanNode) × (o ≡ Some n) × P n
      some_node P None h = absurd h
      some_node P (Some n) h = (n, refl, h)

-- what was kept and isn't met stays
pub kept_still : (touch : Touch) (feet : List Footprint) (old new : List Kept) (k : ℕ) (f : Footprint) (rows : List Row) → Forgets touch feet old new → slice_get feet k ≡ Some f → ¬ Meets f touch → slice_get old k ≡ Some (Some rows) → slice_get new k ≡ Some (Some rows)
kept_still touch [] old new k f rows h e not g = cc
kept_still touch (x ∷ feet) [] new k f rows h e not g = absurd h
kept_still touch (x ∷ feet) (o ∷ old) [] k f rows h e not g = absurd h
kept_still touch (x ∷ feet) (o ∷ old) (y ∷ new) zero f rows h e not g =
    let is : x ≡ f = cc in
    let was : o ≡ Some rows = cc in
    ap Some (h.0.stays (subst (λ (v : Footprint). ¬ Meets v touch) (sym is) not) ∙ was)
kept_still touch (x ∷ feet) (o ∷ old) (y ∷ new) (suc k) f rows h e not g = kept_still touch feet old new k f rows h.1 e not g

-- there are as many places as before
pub forgets_as_many : (touch : Touch) (feet : List Footprint) (old new : List Kept) → Forgets touch feet old new → length new ≡ length old
forgets_as_many touch [] [] [] h = refl
forgets_as_many touch [] [] (y ∷ new) h = absurd h
forgets_as_many touch [] (o ∷ old) new h = absurd h
forgets_as_many touch (f ∷ feet) [] new h = absurd h
forgets_as_many touch (f ∷ feet) (o ∷ old) [] h = absurd h
forgets_as_many touch (f ∷ feet) (o ∷ old) (y ∷ new) h = ap suc (forgets_as_many touch feet old new h.1)

-- the footprint at a node's place is the node's
own_foot : (nodes : List PlanNode) (k : ℕ) (n : PlanNode) → slice_get nodes k ≡ Some n → slice_get (footprints_of nodes) k ≡ Some (footprint_of n.member)
own_foot [] k n e = cc
own_foot (m ∷ nodes) zero n e = ap (λ (v : PlanNode). Some (footprint_of v.member)) (let same : m ≡ n = cc in same)
own_foot (m ∷ nodes) (suc k) n e = own_foot nodes k n e

one_foot : (o : Option Footprint) (f g : Footprint) → o ≡ Some f → o ≡ Some g → f ≡ g
one_foot o f g e h = cc

-- what is right of each node that isn't met before an edit, and is so after it, is kept right
pub right_after : (R Q : Member → List Row → Type 0) (touch : Touch) (nodes : List PlanNode) (old new : List Kept)
    → ((k : ℕ) (n : PlanNode) (rows : List Row) → slice_get nodes k ≡ Some n → ¬ Meets (footprint_of n.member) touch → R n.member rows → Q n.member rows)
    → AllKept R nodes old → Forgets touch (footprints_of nodes) old new → AllKept Q nodes new
right_after R Q touch nodes old new same right h =
    right_forgotten touch R Q nodes (footprints_of nodes) old new
    (λ k n f rows e g not r. same k n rows e (subst (λ (v : Footprint). ¬ Meets v touch) (one_foot (slice_get (footprints_of nodes) k) f (footprint_of n.member) g (own_foot nodes k n e)) not) r)
    right h

-- exactly what was kept and isn't met is kept
pub kept_exactly : (touch : Touch) (nodes : List PlanNode) (old new : List Kept) (k : ℕ) (n : PlanNode) (rows : List Row) → Forgets touch (footprints_of nodes) old new → slice_get nodes k ≡ Some n
    → (slice_get new k ≡ Some (Some rows)) ↔ ((slice_get old k ≡ Some (Some rows)) × (¬ Meets (footprint_of n.member) touch))
kept_exactly touch nodes old new k n rows h e = (
  λ g.
      let s = still_kept touch (footprints_of nodes) old new k rows h g in
      (s.3, subst (λ (v : Footprint). ¬ Meets v touch) (one_foot (slice_get (footprints_of nodes) k) s.0 (footprint_of n.member) s.1 (own_foot nodes k n e)) s.2),
  λ w. kept_still touch (footprints_of nodes) old new k (footprint_of n.member) rows h (own_foot nodes k n e) w.1 w.0,
)
