-- What is told so far, with one member more.
use Rattle.std.proofs.Common.{◌≡◌, ℕ, zero, suc, List, [], ◌∷◌, ◌++◌, ◌⊎◌, length, replicate, slice_get, Option, Some, None, inl, inr, refl, sym, ap, subst, ◌∙◌}
use Rattle.std.specs.Prelude.{IsSomeAnd}
use Rattle.std.proofs.lemmas.List.{map-append, length-map}
use Rattle.itpg_base.specs.Graphs.{Graph}
use Rattle.relation_rows.specs.declared.rows.Row.{Row}
use Rattle.plan_cache.specs.Nodes.{PlanNode, Kept, Table}
use Rattle.plan_cache.specs.KeptRows.{AddsFree}
use Rattle.plan_cache.specs.Refilled.{numbers_of}
use Rattle.plan_cache.specs.RightRows.{IsTableRight}
use Rattle.question_costs.specs.declared.count.MemberCount.{MemberCount}
use Rattle.question_costs.specs.Counts.{IsToldOf, AreTold, HaveChildren, counts_of}

-- so it is with each of the first nodes, and what stands at its number
abbrev ForEach : {X : Type 0} → (PlanNode → X → Type 0) → List PlanNode → List X → Type 0
ForEach {X} P nodes xs = (k : ℕ) (n : PlanNode) (x : X) → slice_get nodes k ≡ Some n → slice_get xs k ≡ Some x → P n x

nowhere : {X : Type 0} (k : ℕ) (x : X) → (let none : List X = [] in slice_get none k) ≡ Some x → ⊥
nowhere k x e = cc

at_last_or : {X : Type 0} (xs : List X) (x : X) (k : ℕ) (y : X) → slice_get (xs ++ x ∷ []) k ≡ Some y → (slice_get xs k ≡ Some y) ⊎ ((k ≡ length xs) × (x ≡ y))
at_last_or [] x zero y e = let same : x ≡ y = cc in inr (refl, same)
at_last_or [] x (suc k) y e = absurd (nowhere k y e)
at_last_or (z ∷ xs) x zero y e = inl e
at_last_or (z ∷ xs) x (suc k) y e = elim (at_last_or xs x k y e) [ inl f ↦ inl f | inr h ↦ inr (ap suc h.0, h.1) ]

each_more : {X : Type 0} (P : PlanNode → X → Type 0) (nodes : List PlanNode) (xs : List X) (x : X) (k : ℕ) → length xs ≡ k → ForEach P nodes xs → IsSomeAnd (slice_get nodes k) (λ n. P n x) → ForEach P nodes (xs ++ x ∷ [])
each_more {X} P nodes xs x k long each here = λ j n y e f. elim (at_last_or xs x j y f) [
  | inl g ↦ each j n y e g
  | inr h ↦ subst (P n) h.1 (of_this n (slice_get nodes j) e (subst (λ (v : ℕ). IsSomeAnd (slice_get nodes v) (λ m. P m x)) (sym long ∙ sym h.0) here))
]
  where
    of_this : (n : PlanNode) (o : Option PlanNode) → o ≡ Some n → IsSomeAnd o (λ m. P m x) → P n x
    of_this n o e h = subst (λ (v : Option PlanNode). IsSomeAnd v (λ m. P m x)) e h

pub children_more : (nodes : List PlanNode) (members : List MemberCount) (m : MemberCount) (k : ℕ) → length members ≡ k → HaveChildren nodes members
    → IsSomeAnd (slice_get nodes k) (λ n. numbers_of m.children.items ≡ n.children) → HaveChildren nodes (members ++ m ∷ [])
children_more nodes members m k long each here = each_more (λ n x. numbers_of x.children.items ≡ n.children) nodes members m k long each here

pub told_more : (g : Graph) (limit : ℕ) (nodes : List PlanNode) (members : List MemberCount) (m : MemberCount) (k : ℕ) → length members ≡ k → AreTold g limit nodes (counts_of members)
    → IsSomeAnd (slice_get nodes k) (λ n. IsToldOf g limit n.member m.count) → AreTold g limit nodes (counts_of (members ++ m ∷ []))
told_more g limit nodes members m k long each here =
    subst (AreTold g limit nodes) (sym (map-append (λ (x : MemberCount). x.count) members (m ∷ [])))
    (each_more (λ n c. IsToldOf g limit n.member c) nodes (counts_of members) m.count k (length-map members (λ (x : MemberCount). x.count) ∙ long) each here)

-- of no members nothing is told
pub none_told : (g : Graph) (limit : ℕ) (nodes : List PlanNode) → AreTold g limit nodes (counts_of [])
none_told g limit nodes k n c e f = absurd (nowhere k c f)

pub no_children : (nodes : List PlanNode) → HaveChildren nodes []
no_children nodes k n m e f = absurd (nowhere k m f)

nothing_kept : (n k : ℕ) (rows : List Row) → slice_get (let free : List Kept = replicate n None in free) k ≡ Some (Some rows) → ⊥
nothing_kept zero k rows e = nowhere k (Some rows) e
nothing_kept (suc n) zero rows e = cc
nothing_kept (suc n) (suc k) rows e = nothing_kept n k rows e

-- a table is right to whose nothing free places were added
pub new_right : (g : Graph) (limit : ℕ) (old new : Table) → old.kept ≡ [] → AddsFree old.kept new.kept → IsTableRight g limit new
new_right g limit old new none free = λ k rows e.
    let is : new.kept ≡ replicate free.0 None = free.1 ∙ ap (λ (kept : List Kept). kept ++ replicate free.0 None) none in
    absurd (nothing_kept free.0 k rows (subst (λ (kept : List Kept). slice_get kept k ≡ Some (Some rows)) is e))

-- the same, where the nodes of a table are those of the one before
module _ (g : Graph) (limit : ℕ) (old new : Table) (same : new.nodes ≡ old.nodes) (members : List MemberCount) (m : MemberCount) (k : ℕ) (long : length members ≡ k) where
  pub children_then : HaveChildren old.nodes members → IsSomeAnd (slice_get old.nodes k) (λ n. numbers_of m.children.items ≡ n.children) → HaveChildren new.nodes (members ++ m ∷ [])
  children_then each here = subst (λ (nodes : List PlanNode). HaveChildren nodes (members ++ m ∷ [])) (sym same) (children_more old.nodes members m k long each here)

  pub told_then : AreTold g limit old.nodes (counts_of members) → IsSomeAnd (slice_get old.nodes k) (λ n. IsToldOf g limit n.member m.count) → AreTold g limit new.nodes (counts_of (members ++ m ∷ []))
  told_then each here = subst (λ (nodes : List PlanNode). AreTold g limit nodes (counts_of (members ++ m ∷ []))) (sym same) (told_more g limit old.nodes members m k long each here)
