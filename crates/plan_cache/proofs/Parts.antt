-- The parts of a member that has a node have nodes.
use Rattle.std.proofs.Common.{ℕ, List, [], ◌∷◌, inl, inr, subst}
use Rattle.itpg_base.specs.Lists.{Among}
use Rattle.itpg_base.specs.Walks.{IsWalk}
use Rattle.label_scope.specs.Members.{Member}
use Rattle.plan_cache.specs.Nodes.{PlanNode, AreNodesOf, AreShared, parts_of}
use Rattle.plan_cache.specs.Refilled.{HasNode}
use Rattle.plan_cache.proofs.Unique.{the_node}
use Rattle.plan_cache.proofs.Former.{all_in_whole}

has_each : (nodes : List PlanNode) (ks : List ℕ) (ms : List Member) → AreNodesOf nodes ks ms → (m : Member) → Among ms m → HasNode nodes m
has_each nodes [] [] h m i = absurd i
has_each nodes [] (x ∷ ms) h m i = absurd h
has_each nodes (k ∷ ks) [] h m i = absurd i
has_each nodes (k ∷ ks) (x ∷ ms) h m (inl e) = subst (HasNode nodes) e (k, h.0)
has_each nodes (k ∷ ks) (x ∷ ms) h m (inr i) = has_each nodes ks ms h.1 m i

part_has_node : (nodes : List PlanNode) → AreShared nodes → (m part : Member) → HasNode nodes m → Among (parts_of m) part → HasNode nodes part
part_has_node nodes shared m part h i =
    let n = the_node nodes h.0 m h.1 in
    let children = all_in_whole nodes h.0 n.0.children (parts_of n.0.member) (shared.lower h.0 n.0 n.1).children in
    has_each nodes n.0.children (parts_of m) (subst (λ (v : Member). AreNodesOf nodes n.0.children (parts_of v)) n.2 children) part i

pub walk_has_node : (nodes : List PlanNode) → AreShared nodes → (m : Member) (zs : List Member) (end : Member) → HasNode nodes m → IsWalk (λ x y. Among (parts_of x) y) m zs end → HasNode nodes end
walk_has_node nodes shared m [] end h e = subst (HasNode nodes) e h
walk_has_node nodes shared m (z ∷ zs) end h w = walk_has_node nodes shared z zs end (part_has_node nodes shared m z h w.0) w.1
