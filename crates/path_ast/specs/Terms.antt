-- Paths, tests and queries as trees of plain data: what a value in memory stands for, whatever its boxes' addresses.
use Rattle.std.specs.Prelude.{ℕ, ℤ, Bool, Option}
use Rattle.itpg_base.specs.Words.{Word}
use Rattle.path_ast.specs.declared.ast.Path.{Path}
use Rattle.path_ast.specs.declared.ast.Path.TheVariants.{Test', F, B, N, P, Seq', Alt', Repeat'}
use Rattle.path_ast.specs.declared.ast.Test.{Test}
use Rattle.path_ast.specs.declared.ast.Test.TheVariants as test
use Rattle.path_ast.specs.declared.ast.Leaf.{Leaf}
use Rattle.path_ast.specs.declared.ast.Leaf.TheVariants.{Node, Edge, Label, Value, Before, Exists}
use Rattle.path_ast.specs.declared.ast.Query.{Query}

mutual
  -- a test, an axis, two paths in sequence, one of two paths, or a path repeated from a least to a most number of times
  pub data PathTerm : Type 0 where
    OfTest : TestTerm → PathTerm
    Forward : PathTerm
    Backward : PathTerm
    Next : PathTerm
    Previous : PathTerm
    Sequence : PathTerm → PathTerm → PathTerm
    Choice : PathTerm → PathTerm → PathTerm
    Repetition : PathTerm → ℕ → Option ℕ → PathTerm

  -- a test of the object, of the moment, or of both; that a path starts there; or a combination of tests
  pub data TestTerm : Type 0 where
    IsNode : TestTerm
    IsEdge : TestTerm
    HasLabel : Word → TestTerm
    HasValue : Word → Word → TestTerm
    IsBelow : ℤ → TestTerm
    DoesExist : TestTerm
    Condition : PathTerm → TestTerm
    Conjunction : TestTerm → TestTerm → TestTerm
    Disjunction : TestTerm → TestTerm → TestTerm
    Negation : TestTerm → TestTerm

-- a query: which ends of the path it asks for, the path, and the name of the graph
pub record QueryTerm : Type 0 where
  pub first : Bool
  pub last : Bool
  pub path : PathTerm
  pub graph_name : Option Word

-- the term that a test of one object at one moment stands for
abbrev pub leaf_term : Leaf → TestTerm
leaf_term Node = IsNode
leaf_term Edge = IsEdge
leaf_term (Label label) = HasLabel label
leaf_term (Value prop value) = HasValue prop value
leaf_term (Before k) = IsBelow k
leaf_term Exists = DoesExist

-- the term that a path, or a test, in memory stands for
abbrev mutual
  pub path_term : Path → PathTerm
  path_term (Test' p c) = OfTest (test_term c)
  path_term F = Forward
  path_term B = Backward
  path_term N = Next
  path_term P = Previous
  path_term (Seq' p a q b) = Sequence (path_term a) (path_term b)
  path_term (Alt' p a q b) = Choice (path_term a) (path_term b)
  path_term (Repeat' p body least most) = Repetition (path_term body) least most

  pub test_term : Test → TestTerm
  test_term (test.Leaf leaf) = leaf_term leaf
  test_term (test.Cond' p a) = Condition (path_term a)
  test_term (test.And' p a q b) = Conjunction (test_term a) (test_term b)
  test_term (test.Or' p a q b) = Disjunction (test_term a) (test_term b)
  test_term (test.Not' p a) = Negation (test_term a)

-- the term that a query in memory stands for
abbrev pub query_term : Query → QueryTerm
query_term q = record { first = q.first; last = q.last; path = path_term q.path; graph_name = q.graph_name }
