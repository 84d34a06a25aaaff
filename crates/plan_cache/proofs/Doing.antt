-- An operation does what its parts are for.
use Rattle.std.proofs.Common.{◌≡◌, ℕ, ◌+◌, ◌≤◌, List, [], ◌∷◌, ◌++◌, length, Option, ap, subst, ◌∙◌, arith}
use Rattle.std.proofs.lemmas.List.{length-append}
use Rattle.path_ast.specs.Terms.{PathTerm, Sequence, Choice, Repetition, TestTerm, Condition, Conjunction, Disjunction, Negation}
use Rattle.label_scope.specs.declared.scope.Scope.{Scope}
use Rattle.label_scope.specs.declared.scope.Scope.TheVariants.{All}
use Rattle.label_scope.specs.Members.{Member, middle, passed}
use Rattle.plan_cache.specs.Operations.{PartTerm, Leads, BothHold, EitherHolds, Fails, InTurn, OneOf, Times, part_children}
use Rattle.plan_cache.specs.Nodes.{PlanNode, IsNodeOf, AreNodesOf, narrowed_member, read_back, test_read_back, conditions}
use Rattle.plan_cache.specs.Growing.{Grows, DoesPath, DoesTest}
use Rattle.plan_cache.proofs.Growing.{path_of_node, node_stays, nodes_stay, test_stays}

pub sequence_does : (n : ℕ) (mid new : List PlanNode) → Grows n mid new → (p q : PathTerm) (a b m : Scope) (x y : ℕ) → m ≡ middle p q (record { sources = a; targets = b })
    → IsNodeOf mid x (narrowed_member p a m) → IsNodeOf new y (narrowed_member q m b) → DoesPath new (InTurn x y) (Sequence p q) a b
sequence_does n mid new g p q a b m x y e h k =
    let one = node_stays n mid new g x (narrowed_member p a m) h in
    let by = path_of_node new x (narrowed_member p a m) one in
    let then = path_of_node new y (narrowed_member q m b) k in
    record {
      path = (let same : read_back new (InTurn x y) ≡ Sequence p q = cc in same);
      children = subst (λ (v : Scope). AreNodesOf new (x ∷ y ∷ []) (narrowed_member p a v ∷ narrowed_member q v b ∷ [])) e (one, (k, tt));
    }

pub choice_does : (n : ℕ) (mid new : List PlanNode) → Grows n mid new → (p q : PathTerm) (a b : Scope) (x y : ℕ)
    → IsNodeOf mid x (narrowed_member p a b) → IsNodeOf new y (narrowed_member q a b) → DoesPath new (OneOf x y) (Choice p q) a b
choice_does n mid new g p q a b x y h k =
    let one = node_stays n mid new g x (narrowed_member p a b) h in
    let by = path_of_node new x (narrowed_member p a b) one in
    let then = path_of_node new y (narrowed_member q a b) k in
    record {
      path = (let same : read_back new (OneOf x y) ≡ Choice p q = cc in same);
      children = (one, (k, tt));
    }

pub repetition_does : (new : List PlanNode) (r : PathTerm) (n : ℕ) (m : Option ℕ) (a b u : Scope) (x : ℕ) → u ≡ passed r (record { sources = a; targets = b })
    → IsNodeOf new x (narrowed_member r u u) → DoesPath new (Times x n m) (Repetition r n m) a b
repetition_does new r n m a b u x e h =
    let by = path_of_node new x (narrowed_member r u u) h in
    record {
      path = (let same : read_back new (Times x n m) ≡ Repetition r n m = cc in same);
      children = subst (λ (v : Scope). AreNodesOf new (x ∷ []) (narrowed_member r v v ∷ [])) e (h, tt);
    }

pub condition_does : (new : List PlanNode) (p : PathTerm) (a : Scope) (x : ℕ) → IsNodeOf new x (narrowed_member p a All) → DoesTest new (Leads x) (Condition p) a
condition_does new p a x h =
    let by = path_of_node new x (narrowed_member p a All) h in
    record { test = (let same : test_read_back new (Leads x) ≡ Condition p = cc in same); children = (h, tt) }

pub both_nodes : (nodes : List PlanNode) (ks ls : List ℕ) (ms ns : List Member) → AreNodesOf nodes ks ms → AreNodesOf nodes ls ns → AreNodesOf nodes (ks ++ ls) (ms ++ ns)
both_nodes nodes [] ls [] ns h k = k
both_nodes nodes [] ls (m ∷ ms) ns h k = absurd h
both_nodes nodes (x ∷ ks) ls [] ns h k = absurd h
both_nodes nodes (x ∷ ks) ls (m ∷ ms) ns h k = (h.0, both_nodes nodes ks ls ms ns h.1 k)

pub test_does_still : (n : ℕ) (mid new : List PlanNode) → Grows n mid new → (x : PartTerm) (c : TestTerm) (a : Scope) → DoesTest mid x c a → DoesTest new x c a
test_does_still n mid new g x c a h = record {
  test = test_stays n mid new g x (conditions c a, h.children) ∙ h.test;
  children = nodes_stay n mid new g (part_children x) (conditions c a) h.children;
}

pub both_do : (new : List PlanNode) (x y : PartTerm) (c d : TestTerm) (a : Scope) → DoesTest new x c a → DoesTest new y d a → DoesTest new (BothHold x y) (Conjunction c d) a
both_do new x y c d a h k =
    let e = h.test in
    let f = k.test in
    record {
      test = (let same : test_read_back new (BothHold x y) ≡ Conjunction c d = cc in same);
      children = both_nodes new (part_children x) (part_children y) (conditions c a) (conditions d a) h.children k.children;
    }

pub either_does : (new : List PlanNode) (x y : PartTerm) (c d : TestTerm) (a : Scope) → DoesTest new x c a → DoesTest new y d a → DoesTest new (EitherHolds x y) (Disjunction c d) a
either_does new x y c d a h k =
    let e = h.test in
    let f = k.test in
    record {
      test = (let same : test_read_back new (EitherHolds x y) ≡ Disjunction c d = cc in same);
      children = both_nodes new (part_children x) (part_children y) (conditions c a) (conditions d a) h.children k.children;
    }

pub not_does : (new : List PlanNode) (x : PartTerm) (c : TestTerm) (a : Scope) → DoesTest new x c a → DoesTest new (Fails x) (Negation c) a
not_does new x c a h = let e = h.test in record { test = (let same : test_read_back new (Fails x) ≡ Negation c = cc in same); children = h.children }

pub grown_few : (n : ℕ) (old new : List PlanNode) → Grows n old new → length new ≤ length old + n
grown_few n old new g = let e = ap length g.is in let l = length-append old g.more in let f = g.few in omega arith
