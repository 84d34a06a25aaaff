-- The question in which no step along an edge asks that what it comes to exists: F for FWD, and B for BWD.
use Rattle.std.specs.Prelude.{Bool, true, false, ◌&&◌, cond}
use Rattle.path_ast.specs.Terms.{PathTerm, OfTest, Forward, Backward, Next, Previous, Sequence, Choice, Repetition, TestTerm, IsNode, IsEdge, HasLabel, HasValue, IsBelow, DoesExist, Condition, Conjunction, Disjunction, Negation}

-- a step F or B
abbrev pub is_step : PathTerm → Bool
is_step (OfTest c) = false
is_step Forward = true
is_step Backward = true
is_step Next = false
is_step Previous = false
is_step (Sequence p q) = false
is_step (Choice p q) = false
is_step (Repetition p n m) = false

-- the test of existence, alone
abbrev pub is_existence_test : TestTerm → Bool
is_existence_test IsNode = false
is_existence_test IsEdge = false
is_existence_test (HasLabel label) = false
is_existence_test (HasValue prop value) = false
is_existence_test (IsBelow k) = false
is_existence_test DoesExist = true
is_existence_test (Condition p) = false
is_existence_test (Conjunction c d) = false
is_existence_test (Disjunction c d) = false
is_existence_test (Negation c) = false

-- the path {EXISTS}
abbrev pub is_existence : PathTerm → Bool
is_existence (OfTest c) = is_existence_test c
is_existence Forward = false
is_existence Backward = false
is_existence Next = false
is_existence Previous = false
is_existence (Sequence p q) = false
is_existence (Choice p q) = false
is_existence (Repetition p n m) = false

-- the path, and the test, in which each F/{EXISTS} is F and each B/{EXISTS} is B
abbrev mutual
  pub relaxed : PathTerm → PathTerm
  relaxed (OfTest c) = OfTest (relaxed_test c)
  relaxed Forward = Forward
  relaxed Backward = Backward
  relaxed Next = Next
  relaxed Previous = Previous
  relaxed (Sequence p q) = cond (is_step p && is_existence q) (relaxed p) (Sequence (relaxed p) (relaxed q))
  relaxed (Choice p q) = Choice (relaxed p) (relaxed q)
  relaxed (Repetition p n m) = Repetition (relaxed p) n m

  pub relaxed_test : TestTerm → TestTerm
  relaxed_test IsNode = IsNode
  relaxed_test IsEdge = IsEdge
  relaxed_test (HasLabel label) = HasLabel label
  relaxed_test (HasValue prop value) = HasValue prop value
  relaxed_test (IsBelow k) = IsBelow k
  relaxed_test DoesExist = DoesExist
  relaxed_test (Condition p) = Condition (relaxed p)
  relaxed_test (Conjunction c d) = Conjunction (relaxed_test c) (relaxed_test d)
  relaxed_test (Disjunction c d) = Disjunction (relaxed_test c) (relaxed_test d)
  relaxed_test (Negation c) = Negation (relaxed_test c)
