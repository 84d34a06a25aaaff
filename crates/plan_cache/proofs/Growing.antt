-- A table that grows: the nodes before the new ones stay what they are.
use Rattle.std.proofs.Common.{◌≡◌, ℕ, zero, suc, ◌+◌, ◌≤◌, List, [], ◌∷◌, ◌++◌, refl, sym, ap, subst, ◌∙◌, arith}
use Rattle.std.proofs.lemmas.List.{append_assoc, length-append}
use Rattle.path_ast.specs.Terms.{OfTest}
use Rattle.label_scope.specs.Members.{Member}
use Rattle.plan_cache.specs.Operations.{OpTerm, PartTerm, Asks, Leads, BothHold, EitherHolds, Fails, Tests, GoesForward, GoesBackward, GoesNext, GoesPrevious, InTurn, OneOf, Times, op_children, part_children}
use Rattle.plan_cache.specs.Nodes.{PlanNode, IsNodeOf, AreNodesOf, path_at, read_back, test_read_back}
use Rattle.plan_cache.specs.Growing.{Grows}

-- a node that is there stays at its number
pub still_there : (nodes more : List PlanNode) (k : ℕ) (m : Member) → IsNodeOf nodes k m → IsNodeOf (nodes ++ more) k m
still_there [] more k m h = absurd h
still_there (n ∷ nodes) more zero m h = h
still_there (n ∷ nodes) more (suc k) m h = still_there nodes more k m h

pub still_nodes_of : (nodes more : List PlanNode) (ks : List ℕ) (ms : List Member) → AreNodesOf nodes ks ms → AreNodesOf (nodes ++ more) ks ms
still_nodes_of nodes more [] [] h = tt
still_nodes_of nodes more [] (m ∷ ms) h = h
still_nodes_of nodes more (k ∷ ks) [] h = h
still_nodes_of nodes more (k ∷ ks) (m ∷ ms) h = (still_there nodes more k m h.0, still_nodes_of nodes more ks ms h.1)

-- its path is that of its member
pub path_of_node : (nodes : List PlanNode) (k : ℕ) (m : Member) → IsNodeOf nodes k m → path_at nodes k ≡ m.path
path_of_node [] k m h = absurd h
path_of_node (n ∷ nodes) zero m h = ap (λ (v : Member). v.path) h
path_of_node (n ∷ nodes) (suc k) m h = path_of_node nodes k m h

-- the numbers of nodes that are there
abbrev pub AreThere : List PlanNode → List ℕ → Type 0
AreThere nodes ks = (ms : List Member) × AreNodesOf nodes ks ms

pub first_there : (nodes : List PlanNode) (ks ls : List ℕ) → AreThere nodes (ks ++ ls) → AreThere nodes ks
first_there nodes ks ls h = of ks h.0 h.1
  where
    of : (ks : List ℕ) (ms : List Member) → AreNodesOf nodes (ks ++ ls) ms → AreThere nodes ks
    of [] ms a = ([], tt)
    of (k ∷ ks) [] a = absurd a
    of (k ∷ ks) (m ∷ ms) a = let rest = of ks ms a.1 in (m ∷ rest.0, (a.0, rest.1))

pub second_there : (nodes : List PlanNode) (ks ls : List ℕ) → AreThere nodes (ks ++ ls) → AreThere nodes ls
second_there nodes ks ls h = of ks h.0 h.1
  where
    of : (ks : List ℕ) (ms : List Member) → AreNodesOf nodes (ks ++ ls) ms → AreThere nodes ls
    of [] ms a = (ms, a)
    of (k ∷ ks) [] a = absurd a
    of (k ∷ ks) (m ∷ ms) a = of ks ms a.1

same_path : (nodes more : List PlanNode) (k : ℕ) (m : Member) → IsNodeOf nodes k m → path_at (nodes ++ more) k ≡ path_at nodes k
same_path nodes more k m h = path_of_node (nodes ++ more) k m (still_there nodes more k m h) ∙ sym (path_of_node nodes k m h)

one_path : (nodes more : List PlanNode) (k : ℕ) → AreThere nodes (k ∷ []) → path_at (nodes ++ more) k ≡ path_at nodes k
one_path nodes more k h = of h.0 h.1
  where
    of : (ms : List Member) → AreNodesOf nodes (k ∷ []) ms → path_at (nodes ++ more) k ≡ path_at nodes k
    of [] a = absurd a
    of (m ∷ ms) a = same_path nodes more k m a.0

-- what was read back reads so behind more nodes too
pub test_still_reads : (nodes more : List PlanNode) (c : PartTerm) → AreThere nodes (part_children c) → test_read_back (nodes ++ more) c ≡ test_read_back nodes c
test_still_reads nodes more (Asks leaf) h = refl
test_still_reads nodes more (Leads k) h = let e = one_path nodes more k h in cc
test_still_reads nodes more (BothHold c d) h =
    let e = test_still_reads nodes more c (first_there nodes (part_children c) (part_children d) h) in
    let f = test_still_reads nodes more d (second_there nodes (part_children c) (part_children d) h) in
    cc
test_still_reads nodes more (EitherHolds c d) h =
    let e = test_still_reads nodes more c (first_there nodes (part_children c) (part_children d) h) in
    let f = test_still_reads nodes more d (second_there nodes (part_children c) (part_children d) h) in
    cc
test_still_reads nodes more (Fails c) h = let e = test_still_reads nodes more c h in cc

pub still_reads : (nodes more : List PlanNode) (op : OpTerm) → AreThere nodes (op_children op) → read_back (nodes ++ more) op ≡ read_back nodes op
still_reads nodes more (Tests c) h = ap OfTest (test_still_reads nodes more c h)
still_reads nodes more GoesForward h = refl
still_reads nodes more GoesBackward h = refl
still_reads nodes more GoesNext h = refl
still_reads nodes more GoesPrevious h = refl
still_reads nodes more (InTurn a b) h =
    let e = one_path nodes more a (first_there nodes (a ∷ []) (b ∷ []) h) in
    let f = one_path nodes more b (second_there nodes (a ∷ []) (b ∷ []) h) in
    cc
still_reads nodes more (OneOf a b) h =
    let e = one_path nodes more a (first_there nodes (a ∷ []) (b ∷ []) h) in
    let f = one_path nodes more b (second_there nodes (a ∷ []) (b ∷ []) h) in
    cc
still_reads nodes more (Times body n m) h = let e = one_path nodes more body h in cc

-- growing once and then again
pub grows_on : (n m : ℕ) (a b c : List PlanNode) → Grows n a b → Grows m b c → Grows (n + m) a c
grows_on n m a b c g h = record {
  more = g.more ++ h.more;
  is = h.is ∙ ap (λ v. v ++ h.more) g.is ∙ append_assoc a g.more h.more;
  few = let l = length-append g.more h.more in let f = g.few in let k = h.few in omega arith;
}

pub grows_not : (n : ℕ) (a : List PlanNode) → Grows n a a
grows_not n a = record {
  more = [];
  is = append_none a;
  few = omega arith;
}
  where
    append_none : (xs : List PlanNode) → xs ≡ xs ++ []
    append_none [] = refl
    append_none (x ∷ xs) = ap (λ v. x ∷ v) (append_none xs)

pub grows_within : (n m : ℕ) (a b : List PlanNode) → n ≤ m → Grows n a b → Grows m a b
grows_within n m a b l g = record { more = g.more; is = g.is; few = let f = g.few in omega arith }

-- the same facts, on a table that grew
pub node_stays : (n : ℕ) (old new : List PlanNode) → Grows n old new → (k : ℕ) (m : Member) → IsNodeOf old k m → IsNodeOf new k m
node_stays n old new g k m h = subst (λ (v : List PlanNode). IsNodeOf v k m) (sym g.is) (still_there old g.more k m h)

pub nodes_stay : (n : ℕ) (old new : List PlanNode) → Grows n old new → (ks : List ℕ) (ms : List Member) → AreNodesOf old ks ms → AreNodesOf new ks ms
nodes_stay n old new g ks ms h = subst (λ (v : List PlanNode). AreNodesOf v ks ms) (sym g.is) (still_nodes_of old g.more ks ms h)

pub reading_stays : (n : ℕ) (old new : List PlanNode) → Grows n old new → (op : OpTerm) → AreThere old (op_children op) → read_back new op ≡ read_back old op
reading_stays n old new g op h = ap (λ (v : List PlanNode). read_back v op) g.is ∙ still_reads old g.more op h

pub test_stays : (n : ℕ) (old new : List PlanNode) → Grows n old new → (c : PartTerm) → AreThere old (part_children c) → test_read_back new c ≡ test_read_back old c
test_stays n old new g c h = ap (λ (v : List PlanNode). test_read_back v c) g.is ∙ test_still_reads old g.more c h
