-- How many steps a path can take from an object to another: between an edge and an end of it.
use Rattle.std.specs.Prelude.{ℕ, zero, suc, ◌+◌, ◌*◌, ◌≤◌, max, Option, Some, None, IfSome, cond, nat_le}
use Rattle.path_ast.specs.Terms.{PathTerm, OfTest, Forward, Backward, Next, Previous, Sequence, Choice, Repetition, TestTerm, IsNode, IsEdge, HasLabel, HasValue, IsBelow, DoesExist, Condition, Conjunction, Disjunction, Negation}

-- a greater number of steps is taken as unbounded
abbrev pub most_steps : ℕ
most_steps = 1000000

-- so many steps, or unbounded
abbrev pub capped : ℕ → Option ℕ
capped n = cond (nat_le n most_steps) (Some n) None

-- what two parts make together; unbounded where one of them is
abbrev pub together : (ℕ → ℕ → ℕ) → Option ℕ → Option ℕ → Option ℕ
together f None b = None
together f (Some m) None = None
together f (Some m) (Some n) = capped (f m n)

-- a body repeated up to a most number of times; one that takes no step takes none however often it is repeated
abbrev pub repeated_steps : Option ℕ → Option ℕ → Option ℕ
repeated_steps None most = None
repeated_steps (Some zero) most = Some 0
repeated_steps (Some (suc k)) None = None
repeated_steps (Some (suc k)) (Some most) = capped (most * suc k)

-- the steps of a path, and of a test the most of its conditions' steps; none where they are unbounded
abbrev mutual
  pub path_steps : PathTerm → Option ℕ
  path_steps (OfTest c) = test_steps c
  path_steps Forward = Some 1
  path_steps Backward = Some 1
  path_steps Next = Some 0
  path_steps Previous = Some 0
  path_steps (Sequence p q) = together (λ m n. m + n) (path_steps p) (path_steps q)
  path_steps (Choice p q) = together max (path_steps p) (path_steps q)
  path_steps (Repetition p n m) = repeated_steps (path_steps p) m

  pub test_steps : TestTerm → Option ℕ
  test_steps IsNode = Some 0
  test_steps IsEdge = Some 0
  test_steps (HasLabel label) = Some 0
  test_steps (HasValue prop value) = Some 0
  test_steps (IsBelow k) = Some 0
  test_steps DoesExist = Some 0
  test_steps (Condition p) = path_steps p
  test_steps (Conjunction c d) = together max (test_steps c) (test_steps d)
  test_steps (Disjunction c d) = together max (test_steps c) (test_steps d)
  test_steps (Negation c) = test_steps c

-- the number is at most the bound, or there is no bound
abbrev pub IsUpTo : Option ℕ → ℕ → Type 0
IsUpTo bound n = IfSome bound (λ most. n ≤ most)
