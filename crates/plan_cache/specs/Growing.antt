-- What is added to a table of nodes.
use Rattle.std.specs.Prelude.{◌≡◌, ℕ, ◌<◌, ◌≤◌, List, ◌++◌, length, slice_get, IsSomeAnd}
use Rattle.itpg_base.specs.Lists.{Among}
use Rattle.itpg_base.specs.Walks.{IsWalk}
use Rattle.label_scope.specs.declared.scope.Scope.{Scope}
use Rattle.path_ast.specs.Terms.{PathTerm, TestTerm}
use Rattle.plan_cache.specs.Operations.{OpTerm, PartTerm, op_children, part_children}
use Rattle.plan_cache.specs.Nodes.{PlanNode, AreNodesOf, read_back, test_read_back, parts, conditions}

-- the table has at most so many nodes more, behind the others
pub record Grows (most : ℕ) (old new : List PlanNode) : Type 0 where
  pub more : List PlanNode
  pub is : new ≡ old ++ more
  pub few : length more ≤ most

-- y is a child of the node x
abbrev pub IsChild : List PlanNode → ℕ → ℕ → Type 0
IsChild nodes x y = IsSomeAnd (slice_get nodes x) (λ n. Among n.children y)

-- a walk from child to child leads from one of the roots to k
abbrev pub IsUnder : List PlanNode → List ℕ → ℕ → Type 0
IsUnder nodes roots k = (r : ℕ) × Among roots r × ((zs : List ℕ) × IsWalk (IsChild nodes) r zs k)

-- each new node is under one of the roots
abbrev pub AddsUnder : List PlanNode → List PlanNode → List ℕ → Type 0
AddsUnder old new roots = (k : ℕ) → length old ≤ k → k < length new → IsUnder new roots k

-- the operation, read back, is the path, and its children are the nodes of the path's parts between the scopes
pub record DoesPath (nodes : List PlanNode) (op : OpTerm) (p : PathTerm) (a b : Scope) : Type 0 where
  pub path : read_back nodes op ≡ p
  pub children : AreNodesOf nodes (op_children op) (parts p a b)

-- the test, read back, is the one asked for, and its numbers are those of its conditions' nodes on the scope
pub record DoesTest (nodes : List PlanNode) (part : PartTerm) (c : TestTerm) (a : Scope) : Type 0 where
  pub test : test_read_back nodes part ≡ c
  pub children : AreNodesOf nodes (part_children part) (conditions c a)
