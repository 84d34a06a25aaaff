-- The nodes of a plan table: each is a path between two scopes, and the numbers of the nodes of this path's parts.
use Rattle.std.specs.Prelude.{◌≡◌, ℕ, zero, suc, List, [], ◌∷◌, ◌++◌, slice_get, take, Option, Some, None, IsSomeAnd}
use Rattle.path_ast.specs.Terms.{PathTerm, OfTest, Forward, Backward, Next, Previous, Sequence, Choice, Repetition, TestTerm, IsNode, IsEdge, HasLabel, HasValue, IsBelow, DoesExist, Condition, Conjunction, Disjunction, Negation, leaf_term}
use Rattle.path_ast.specs.Sizes.{IsPathInRange}
use Rattle.label_scope.specs.declared.scope.Scope.{Scope}
use Rattle.label_scope.specs.declared.scope.Scope.TheVariants.{All}
use Rattle.label_scope.specs.Narrowing.{narrowed}
use Rattle.label_scope.specs.Members.{Member, middle, passed}
use Rattle.relation_rows.specs.declared.rows.Row.{Row}
use Rattle.plan_cache.specs.Operations.{PartTerm, Asks, Leads, BothHold, EitherHolds, Fails, OpTerm, Tests, GoesForward, GoesBackward, GoesNext, GoesPrevious, InTurn, OneOf, Times, op_children}

-- a node: the path that it is read back as, between its two narrowed scopes, and the numbers of its children
pub record PlanNode : Type 0 where
  pub member : Member
  pub children : List ℕ

-- the rows of a relation, if they are kept
abbrev pub Kept : Type 0
Kept = Option (List Row)

-- a table: its nodes, in order of their numbers, and what is kept at each
pub record Table : Type 0 where
  pub nodes : List PlanNode
  pub kept : List Kept

-- the path between these scopes, narrowed
abbrev pub narrowed_member : PathTerm → Scope → Scope → Member
narrowed_member p a b = let ends = narrowed p a b in record { path = p; sources = ends.sources; targets = ends.targets }

-- the conditions that stand in a test on the objects of a scope, from left to right
abbrev pub conditions : TestTerm → Scope → List Member
conditions IsNode a = []
conditions IsEdge a = []
conditions (HasLabel label) a = []
conditions (HasValue prop value) a = []
conditions (IsBelow k) a = []
conditions DoesExist a = []
conditions (Condition p) a = narrowed_member p a All ∷ []
conditions (Conjunction c d) a = conditions c a ++ conditions d a
conditions (Disjunction c d) a = conditions c a ++ conditions d a
conditions (Negation c) a = conditions c a

-- the parts of a path between two narrowed scopes, in order
abbrev pub parts : PathTerm → Scope → Scope → List Member
parts (OfTest c) a b = conditions c a
parts Forward a b = []
parts Backward a b = []
parts Next a b = []
parts Previous a b = []
parts (Sequence p q) a b = let m = middle p q (record { sources = a; targets = b }) in narrowed_member p a m ∷ narrowed_member q m b ∷ []
parts (Choice p q) a b = narrowed_member p a b ∷ narrowed_member q a b ∷ []
parts (Repetition r n m) a b = let u = passed r (record { sources = a; targets = b }) in narrowed_member r u u ∷ []

abbrev pub parts_of : Member → List Member
parts_of m = parts m.path m.sources m.targets

-- the scope of all objects that a repetition passes; no other path has one
abbrev pub walk_between : PathTerm → Scope → Scope → Option Scope
walk_between (OfTest c) a b = None
walk_between Forward a b = None
walk_between Backward a b = None
walk_between Next a b = None
walk_between Previous a b = None
walk_between (Sequence p q) a b = None
walk_between (Choice p q) a b = None
walk_between (Repetition r n m) a b = Some (passed r (record { sources = a; targets = b }))

abbrev pub IsWalkScope : Member → Option Scope → Type 0
IsWalkScope m walk = walk ≡ walk_between m.path m.sources m.targets

-- the node of this number is the member's
abbrev pub IsNodeOf : List PlanNode → ℕ → Member → Type 0
IsNodeOf nodes k m = IsSomeAnd (slice_get nodes k) (λ n. n.member ≡ m)

-- the nodes of these numbers are those of the members, in order
abbrev pub AreNodesOf : List PlanNode → List ℕ → List Member → Type 0
AreNodesOf nodes [] [] = Unit {0}
AreNodesOf nodes [] (m ∷ ms) = ⊥
AreNodesOf nodes (k ∷ ks) [] = ⊥
AreNodesOf nodes (k ∷ ks) (m ∷ ms) = IsNodeOf nodes k m × AreNodesOf nodes ks ms

-- the path of the node of this number
abbrev pub path_at : List PlanNode → ℕ → PathTerm
path_at [] k = Forward
path_at (n ∷ nodes) zero = n.member.path
path_at (n ∷ nodes) (suc k) = path_at nodes k

-- a test, and an operation, read back: each number as its node's path
abbrev pub test_read_back : List PlanNode → PartTerm → TestTerm
test_read_back nodes (Asks leaf) = leaf_term leaf
test_read_back nodes (Leads k) = Condition (path_at nodes k)
test_read_back nodes (BothHold c d) = Conjunction (test_read_back nodes c) (test_read_back nodes d)
test_read_back nodes (EitherHolds c d) = Disjunction (test_read_back nodes c) (test_read_back nodes d)
test_read_back nodes (Fails c) = Negation (test_read_back nodes c)

abbrev pub read_back : List PlanNode → OpTerm → PathTerm
read_back nodes (Tests c) = OfTest (test_read_back nodes c)
read_back nodes GoesForward = Forward
read_back nodes GoesBackward = Backward
read_back nodes GoesNext = Next
read_back nodes GoesPrevious = Previous
read_back nodes (InTurn a b) = Sequence (path_at nodes a) (path_at nodes b)
read_back nodes (OneOf a b) = Choice (path_at nodes a) (path_at nodes b)
read_back nodes (Times body n m) = Repetition (path_at nodes body) n m

-- a node may stand behind these: its path is in range, and its children are the nodes of its path's parts
pub record MayStand (nodes : List PlanNode) (n : PlanNode) : Type 0 where
  pub in_range : IsPathInRange n.member.path
  pub children : AreNodesOf nodes n.children (parts_of n.member)

-- an operation is that of a node
pub record IsOperation (nodes : List PlanNode) (n : PlanNode) (op : OpTerm) : Type 0 where
  pub path : n.member.path ≡ read_back nodes op
  pub children : n.children ≡ op_children op

-- the children of each node have lower numbers, and no two nodes are of one member
pub record AreShared (nodes : List PlanNode) : Type 0 where
  pub lower : (i : ℕ) (n : PlanNode) → slice_get nodes i ≡ Some n → MayStand (take i nodes) n
  pub one : (i j : ℕ) (n m : PlanNode) → slice_get nodes i ≡ Some n → slice_get nodes j ≡ Some m → n.member ≡ m.member → i ≡ j
