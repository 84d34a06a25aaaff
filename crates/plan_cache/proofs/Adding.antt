-- What is added is under what it was added for.
use Rattle.std.proofs.Common.{◌≡◌, ℕ, zero, suc, ◌<◌, ◌≤◌, List, [], ◌∷◌, ◌++◌, length, slice_get, Option, Some, Result, Ok, Err, inl, inr, ◌⊎◌, refl, sym, subst, arith}
use Rattle.std.specs.Prelude.{IsSomeAnd, IfOk}
use Rattle.itpg_base.specs.Lists.{Among}
use Rattle.itpg_base.specs.Walks.{IsWalk}
use Rattle.itpg_base.proofs.Lists.{append_first, append_second}
use Rattle.plan_cache.specs.declared.operations.PlanNo.{PlanNo}
use Rattle.plan_cache.specs.Nodes.{PlanNode}
use Rattle.plan_cache.specs.Growing.{Grows, IsChild, IsUnder, AddsUnder}

-- nothing is added
pub adds_nothing : (nodes : List PlanNode) (roots : List ℕ) → AddsUnder nodes nodes roots
adds_nothing nodes roots = λ k l m. absurd (let none : ⊥ = omega arith in none)

pub child_stays : (nodes more : List PlanNode) (x y : ℕ) → IsChild nodes x y → IsChild (nodes ++ more) x y
child_stays [] more x y h = absurd h
child_stays (n ∷ nodes) more zero y h = h
child_stays (n ∷ nodes) more (suc x) y h = child_stays nodes more x y h

pub walk_stays : (nodes more : List PlanNode) (x : ℕ) (zs : List ℕ) (y : ℕ) → IsWalk (IsChild nodes) x zs y → IsWalk (IsChild (nodes ++ more)) x zs y
walk_stays nodes more x [] y w = w
walk_stays nodes more x (z ∷ zs) y w = (child_stays nodes more x z w.0, walk_stays nodes more z zs y w.1)

pub under_stays : (n : ℕ) (old new : List PlanNode) → Grows n old new → (roots : List ℕ) (k : ℕ) → IsUnder old roots k → IsUnder new roots k
under_stays n old new g roots k h = subst (λ (v : List PlanNode). IsUnder v roots k) (sym g.is) (h.0, h.1, (h.2.0, walk_stays old g.more h.0 h.2.0 k h.2.1))

pub before : (m k : ℕ) → (k < m) ⊎ (m ≤ k)
before zero k = inr (omega arith)
before (suc m) zero = inl (omega arith)
before (suc m) (suc k) = elim (before m k) [ inl h ↦ inl (omega arith) | inr h ↦ inr (omega arith) ]

-- for one thing and then for another
pub adds_both : (n : ℕ) (old mid new : List PlanNode) (roots more : List ℕ) → AddsUnder old mid roots → Grows n mid new → AddsUnder mid new more → AddsUnder old new (roots ++ more)
adds_both n old mid new roots more first g second = λ k l m. elim (before (length mid) k) [
  | inl h ↦ (let u = under_stays n mid new g roots k (first k l h) in (u.0, append_first roots more u.0 u.1, u.2))
  | inr h ↦ (let u = second k h m in (u.0, append_second roots more u.0 u.1, u.2))
]

-- for the children of a node, and then the node itself
pub adds_node : (n : ℕ) (old mid new : List PlanNode) (roots : List ℕ) (x : ℕ) (node : PlanNode) → AddsUnder old mid roots → Grows n mid new → slice_get new x ≡ Some node → node.children ≡ roots → ((k : ℕ) → length mid ≤ k → k < length new → k ≡ x)
    → AddsUnder old new (x ∷ [])
adds_node n old mid new roots x node first g at children only = λ k l m. elim (before (length mid) k) [
  | inl h ↦ (let u = under_stays n mid new g roots k (first k l h) in (x, inl refl, (u.0 ∷ u.2.0, (leads u.0 u.1, u.2.1))))
  | inr h ↦ (x, inl refl, ([], sym (only k h m)))
]
  where
    leads : (r : ℕ) → Among roots r → IsChild new x r
    leads r i = subst (λ (v : Option PlanNode). IsSomeAnd v (λ y. Among y.children r)) (sym at) (subst (λ (v : List ℕ). Among v r) (sym children) i)

-- so it is with what a call that may fail answers
pub node_only : {E : Type 0} (n : ℕ) (old mid new : List PlanNode) (roots : List ℕ) (node : PlanNode) (result : Result PlanNo E) → AddsUnder old mid roots → Grows n mid new → node.children ≡ roots
    → IfOk result (λ x. slice_get new x.0 ≡ Some node) → IfOk result (λ x. (k : ℕ) → length mid ≤ k → k < length new → k ≡ x.0) → IfOk result (λ x. AddsUnder old new (x.0 ∷ []))
node_only n old mid new roots node (Ok x) first g children at only = adds_node n old mid new roots x.0 node first g at children only
node_only n old mid new roots node (Err e) first g children at only = tt
