-- Some member is told to be over exactly if the query is too wide.
use Rattle.std.proofs.Common.{◌≡◌, ℕ, zero, suc, ◌<◌, ◌↔◌, List, [], ◌∷◌, length, take, map, slice_get, Some, None, inl, inr, refl, sym, ap, subst, ◌∙◌, arith}
use Rattle.itpg_base.specs.Graphs.{Graph}
use Rattle.itpg_base.specs.Lists.{Among}
use Rattle.itpg_base.specs.Walks.{IsWalk}
use Rattle.path_ast.specs.Terms.{PathTerm}
use Rattle.label_scope.specs.declared.scope.Scope.TheVariants.{All}
use Rattle.label_scope.specs.Members.{Member, worked}
use Rattle.plan_cache.specs.Nodes.{PlanNode, Kept, AreShared, AreNodesOf, IsNodeOf, narrowed_member, parts_of}
use Rattle.plan_cache.specs.Growing.{IsChild, AddsUnder}
use Rattle.plan_cache.specs.RightRows.{members_of}
use Rattle.path_eval.specs.Evaluated.{SomeIsWide, NeedsWide}
use Rattle.path_eval.specs.Keeping.{LeadsTo}
use Rattle.path_eval.proofs.Finite.{fit_apart}
use Rattle.path_eval.proofs.Climbing.{of_taken, some_node, reached_members}
use Rattle.path_eval.proofs.Working.{members_are}
use Rattle.question_costs.specs.declared.count.Count.{Count}
use Rattle.question_costs.specs.declared.count.Count.TheVariants.{Rows, Over, Unknown}
use Rattle.question_costs.specs.Counts.{IsToldOf, AreTold}
use Rattle.question_costs.proofs.Telling.{at_place, below}

get_among : {X : Type 0} (xs : List X) (k : ℕ) (x : X) → slice_get xs k ≡ Some x → Among xs x
get_among [] k x e = absurd (let none : ⊥ = cc in none)
get_among (y ∷ xs) zero x e = let same : y ≡ x = cc in inl same
get_among (y ∷ xs) (suc k) x e = inr (get_among xs k x e)

pub among_get : {X : Type 0} (xs : List X) (x : X) → Among xs x → (k : ℕ) × (slice_get xs k ≡ Some x) × (k < length xs)
among_get [] x i = absurd i
among_get (y ∷ xs) x (inl e) = (zero, ap Some e, omega arith)
among_get (y ∷ xs) x (inr i) = let at = among_get xs x i in (suc at.0, at.1, omega (arith, at.2))

-- nothing is kept at any of the nodes
abbrev pub nothing : List PlanNode → List Kept
nothing nodes = map (λ (n : PlanNode). let none : Kept = None in none) nodes

free_at : (nodes : List PlanNode) (x : ℕ) (n : PlanNode) → slice_get nodes x ≡ Some n → slice_get (nothing nodes) x ≡ Some None
free_at [] x n e = absurd (let none : ⊥ = cc in none)
free_at (y ∷ nodes) zero n e = refl
free_at (y ∷ nodes) (suc x) n e = free_at nodes x n e

pub free_walk : (nodes : List PlanNode) (x : ℕ) (zs : List ℕ) (k : ℕ) → IsWalk (IsChild nodes) x zs k → IsWalk (LeadsTo nodes (nothing nodes)) x zs k
free_walk nodes x [] k w = w
free_walk nodes x (z ∷ zs) k w =
    let at = some_node (λ n. Among n.children z) (slice_get nodes x) w.0 in
    ((w.0, free_at nodes x at.0 at.1), free_walk nodes z zs k w.1)

-- the part's node is one of the nodes
part_node : (nodes : List PlanNode) (ks : List ℕ) (ms : List Member) (p : Member) → AreNodesOf nodes ks ms → Among ms p → (k : ℕ) × IsNodeOf nodes k p
part_node nodes [] [] p are i = absurd i
part_node nodes [] (m ∷ ms) p are i = absurd are
part_node nodes (k ∷ ks) [] p are i = absurd are
part_node nodes (k ∷ ks) (m ∷ ms) p are (inl e) = (k, subst (IsNodeOf nodes k) e are.0)
part_node nodes (k ∷ ks) (m ∷ ms) p are (inr i) = part_node nodes ks ms p are.1 i

pub within : (nodes : List PlanNode) (k : ℕ) (n : PlanNode) → slice_get nodes k ≡ Some n → k < length nodes
within [] k n e = absurd (let none : ⊥ = cc in none)
within (x ∷ nodes) zero n e = omega arith
within (x ∷ nodes) (suc k) n e = let l : k < length nodes = within nodes k n e in omega (arith, l)

-- a wide member is told to be over, or one with a lower number is wide
at_count : (g : Graph) (limit : ℕ) (nodes : List PlanNode) (counts : List Count) → AreShared nodes → (k : ℕ) (n : PlanNode) (c : Count) → slice_get nodes k ≡ Some n → slice_get counts k ≡ Some c → IsToldOf g limit n.member c → NeedsWide g limit n.member
    → ((j : ℕ) (m : PlanNode) → j < k → slice_get nodes j ≡ Some m → NeedsWide g limit m.member → Among counts Over) → Among counts Over
at_count g limit nodes counts shared k n (Rows many) e f h w next = absurd (fit_apart g limit (members_of n.member) h.right.fits w)
at_count g limit nodes counts shared k n Over e f h w next = get_among counts k Over f
at_count g limit nodes counts shared k n Unknown e f h w next =
    let child = part_node (take k nodes) n.children (parts_of n.member) h.0 (shared.lower k n e).children h.1 in
    let node = some_node (λ v. v.member ≡ h.0) (slice_get nodes child.0) (of_taken nodes k child.0 h.0 child.1) in
    next child.0 node.0 (below nodes k child.0 h.0 child.1) node.1 (subst (NeedsWide g limit) (sym node.2) h.2)

module _ (g : Graph) (limit : ℕ) (nodes : List PlanNode) (counts : List Count) (shared : AreShared nodes) (told : AreTold g limit nodes counts) (each : length counts ≡ length nodes) where
  -- under a member that is wide one is told to be over
  over_under : (fuel k : ℕ) (n : PlanNode) → k < fuel → slice_get nodes k ≡ Some n → NeedsWide g limit n.member → Among counts Over
  over_under zero k n l e w = absurd (let none : ⊥ = omega (arith, l) in none)
  over_under (suc fuel) k n l e w =
      let at = at_place counts k (omega (arith, within nodes k n e, each)) in
      at_count g limit nodes counts shared k n at.0 e at.1 (told k n at.0 e at.1) w (λ j c m f h. over_under fuel j c (omega (arith, l, m)) f h)

  module _ (root : ℕ) (p : PathTerm) (is : IsNodeOf nodes root (narrowed_member p All All)) (only : AddsUnder [] nodes (root ∷ [])) where
    pub wide_told : Among counts Over ↔ SomeIsWide g limit (worked p All All)
    wide_told = (from_over, to_over)
      where
        top : (n : PlanNode) × (slice_get nodes root ≡ Some n) × (n.member ≡ narrowed_member p All All)
        top = some_node (λ v. v.member ≡ narrowed_member p All All) (slice_get nodes root) is

        same_members : members_of top.0.member ≡ worked p All All
        same_members = ap members_of top.2 ∙ members_are p All All

        from_over : Among counts Over → SomeIsWide g limit (worked p All All)
        from_over i =
            let at = among_get counts Over i in
            let node = at_place nodes at.0 (omega (arith, at.2, each)) in
            let wide = (told at.0 node.0 Over node.1 at.1).wide in
            let under = only at.0 (omega arith) (omega (arith, at.2, each)) in
            let same : root ≡ under.0 = one_root under.0 under.1 in
            let walk = free_walk nodes under.0 under.2.0 at.0 under.2.1 in
            let walk_down = subst (λ (v : ℕ). IsWalk (LeadsTo nodes (nothing nodes)) v under.2.0 at.0) (sym same) walk in
            let among = reached_members nodes shared (nothing nodes) root under.2.0 at.0 top.0 node.0 wide.member walk_down top.1 node.1 wide.among in
            record { member = wide.member; among = subst (λ (v : List Member). Among v wide.member) same_members among; wide = wide.wide }
          where
            one_root : (r : ℕ) → Among (root ∷ []) r → root ≡ r
            one_root r (inl e) = e
            one_root r (inr i) = absurd i

        to_over : SomeIsWide g limit (worked p All All) → Among counts Over
        to_over w = over_under (suc root) root top.0 (omega arith) top.1 (subst (SomeIsWide g limit) (sym same_members) w)
