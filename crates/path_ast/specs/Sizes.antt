-- How large a path is, and when its numbers are in range.
use Rattle.std.specs.Prelude.{ℕ, ◌+◌, ◌≤◌, ℤ, pos, neg_ℤ, ◌≤ℤ◌, Option, IfSome}
use Rattle.path_ast.specs.Terms.{PathTerm, OfTest, Forward, Backward, Next, Previous, Sequence, Choice, Repetition, TestTerm, IsNode, IsEdge, HasLabel, HasValue, IsBelow, DoesExist, Condition, Conjunction, Disjunction, Negation}

-- the number of paths and tests in a term, where a path that is a test counts only its test
abbrev mutual
  pub path_size : PathTerm → ℕ
  path_size (OfTest c) = test_size c
  path_size Forward = 1
  path_size Backward = 1
  path_size Next = 1
  path_size Previous = 1
  path_size (Sequence a b) = path_size a + path_size b + 1
  path_size (Choice a b) = path_size a + path_size b + 1
  path_size (Repetition a n m) = path_size a + 1

  pub test_size : TestTerm → ℕ
  test_size IsNode = 1
  test_size IsEdge = 1
  test_size (HasLabel label) = 1
  test_size (HasValue prop value) = 1
  test_size (IsBelow k) = 1
  test_size DoesExist = 1
  test_size (Condition a) = path_size a + 1
  test_size (Conjunction a b) = test_size a + test_size b + 1
  test_size (Disjunction a b) = test_size a + test_size b + 1
  test_size (Negation a) = test_size a + 1

-- the least number of a repetition is at most 10^12, and the most, if there is one, is from the least to 10^12
pub record AreInRange (n : ℕ) (m : Option ℕ) : Type 0 where
  pub least : n ≤ 1000000000000
  pub most : IfSome m (λ most. (n ≤ most) × (most ≤ 1000000000000))

-- a bound on the moment is from -10^12 to 10^12 + 1
pub record IsBoundInRange (k : ℤ) : Type 0 where
  pub least : neg_ℤ (pos 1000000000000) ≤ℤ k
  pub greatest : k ≤ℤ pos 1000000000001

-- each repetition and each bound on the moment in the term is in range
abbrev mutual
  pub IsPathInRange : PathTerm → Type 0
  IsPathInRange (OfTest c) = IsTestInRange c
  IsPathInRange Forward = Unit {0}
  IsPathInRange Backward = Unit {0}
  IsPathInRange Next = Unit {0}
  IsPathInRange Previous = Unit {0}
  IsPathInRange (Sequence a b) = IsPathInRange a × IsPathInRange b
  IsPathInRange (Choice a b) = IsPathInRange a × IsPathInRange b
  IsPathInRange (Repetition a n m) = IsPathInRange a × AreInRange n m

  pub IsTestInRange : TestTerm → Type 0
  IsTestInRange IsNode = Unit {0}
  IsTestInRange IsEdge = Unit {0}
  IsTestInRange (HasLabel label) = Unit {0}
  IsTestInRange (HasValue prop value) = Unit {0}
  IsTestInRange (IsBelow k) = IsBoundInRange k
  IsTestInRange DoesExist = Unit {0}
  IsTestInRange (Condition a) = IsPathInRange a
  IsTestInRange (Conjunction a b) = IsTestInRange a × IsTestInRange b
  IsTestInRange (Disjunction a b) = IsTestInRange a × IsTestInRange b
  IsTestInRange (Negation a) = IsTestInRange a
