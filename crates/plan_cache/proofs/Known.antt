-- A path that has a node is given no second one.
use Rattle.std.proofs.Common.{◌≡◌, ℕ, zero, suc, ◌<◌, ◌≤◌, List, [], ◌∷◌, ◌++◌, length, take, slice_get, Option, Some, None, inl, inr, ⊎_elim, refl, sym, ap, subst, ◌∙◌, arith}
use Rattle.std.specs.Prelude.{IsSomeAnd}
use Rattle.std.proofs.lemmas.List.{length-append}
use Rattle.itpg_base.specs.Lists.{Among}
use Rattle.itpg_base.specs.Walks.{IsWalk}
use Rattle.label_scope.specs.Members.{Member}
use Rattle.plan_cache.specs.Nodes.{PlanNode, IsNodeOf, AreNodesOf, AreShared, parts_of}
use Rattle.plan_cache.specs.Growing.{Grows, IsChild, AddsUnder}
use Rattle.plan_cache.proofs.Growing.{node_stays}
use Rattle.plan_cache.proofs.Unique.{the_node}

-- the number of a node is below their count, and in the first so many below that
pub number_below : (nodes : List PlanNode) (k : ℕ) (m : Member) → IsNodeOf nodes k m → k < length nodes
number_below [] k m h = absurd h
number_below (n ∷ nodes) zero m h = omega arith
number_below (n ∷ nodes) (suc k) m h = let l = number_below nodes k m h in omega arith

pub first_below : (nodes : List PlanNode) (x k : ℕ) (m : Member) → IsNodeOf (take x nodes) k m → k < x
first_below [] zero k m h = absurd h
first_below [] (suc x) k m h = absurd h
first_below (n ∷ nodes) zero k m h = absurd h
first_below (n ∷ nodes) (suc x) zero m h = omega arith
first_below (n ∷ nodes) (suc x) (suc k) m h = let l = first_below nodes x k m h in omega arith

pub all_below : (nodes : List PlanNode) (x : ℕ) (ks : List ℕ) (ms : List Member) → AreNodesOf (take x nodes) ks ms → (y : ℕ) → Among ks y → y < x
all_below nodes x [] ms h y i = absurd i
all_below nodes x (k ∷ ks) [] h y i = absurd h
all_below nodes x (k ∷ ks) (m ∷ ms) h y (inl e) = subst (λ (v : ℕ). v < x) e (first_below nodes x k m h.0)
all_below nodes x (k ∷ ks) (m ∷ ms) h y (inr i) = all_below nodes x ks ms h.1 y i

some_at : (o : Option PlanNode) (P : PlanNode → Type 0) → IsSomeAnd o P → (n : PlanNode) × (o ≡ Some n) × P n
some_at None P h = absurd h
some_at (Some n) P h = (n, refl, h)

-- children have lower numbers
pub child_below : (nodes : List PlanNode) (x y : ℕ) → AreShared nodes → IsChild nodes x y → y < x
child_below nodes x y shared h =
    let n = some_at (slice_get nodes x) (λ n. Among n.children y) h in
    all_below nodes x n.0.children (parts_of n.0.member) (shared.lower x n.0 n.1).children y n.2

under_below : (nodes : List PlanNode) → AreShared nodes → (x : ℕ) (zs : List ℕ) (y : ℕ) → IsWalk (IsChild nodes) x zs y → y ≤ x
under_below nodes shared x [] y e = let same : x ≡ y = e in omega arith
under_below nodes shared x (z ∷ zs) y w =
    let first = child_below nodes x z shared w.0 in
    let rest = under_below nodes shared z zs y w.1 in
    omega arith

pub known : (most answer k : ℕ) (old new : List PlanNode) (m : Member) → AreShared new → Grows most old new → AddsUnder old new (answer ∷ []) → IsNodeOf new answer m → IsNodeOf old k m → (answer ≡ k) × (new ≡ old)
known most answer k old new m shared grows only h g =
    let x = the_node new answer m h in
    let y = the_node new k m (node_stays most old new grows k m g) in
    let one = shared.one answer k x.0 y.0 x.1 y.1 (x.2 ∙ sym y.2) in
    (one, none_more grows.more grows.is one (number_below old k m g))
  where
    append_none : (xs : List PlanNode) → xs ++ [] ≡ xs
    append_none [] = refl
    append_none (n ∷ xs) = ap (λ v. n ∷ v) (append_none xs)

    none_more : (more : List PlanNode) → new ≡ old ++ more → answer ≡ k → k < length old → new ≡ old
    none_more [] e same l = e ∙ append_none old
    none_more (z ∷ more) e same l =
        let longer = ap length e in
        let sum = length-append old (z ∷ more) in
        let u = only (length old) (omega arith) (omega arith) in
        let low = under_below new shared u.0 u.2.0 (length old) u.2.1 in
        let root = ⊎_elim (λ (f : answer ≡ u.0). f) (λ i. absurd i) u.1 in
        absurd (let none : ⊥ = omega arith in none)
