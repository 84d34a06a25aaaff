-- The relaxed path is as short as the path, and in range if it is.
use Rattle.std.proofs.Common.{◌+◌, ◌≤◌, ◌&&◌, Bool, true, false, cond, arith}
use Rattle.path_ast.specs.Terms.{PathTerm, OfTest, Forward, Backward, Next, Previous, Sequence, Choice, Repetition, TestTerm, IsNode, IsEdge, HasLabel, HasValue, IsBelow, DoesExist, Condition, Conjunction, Disjunction, Negation}
use Rattle.path_ast.specs.Sizes.{path_size, test_size, IsPathInRange, IsTestInRange}
use Rattle.answer_hints.specs.Relaxed.{is_step, is_existence, relaxed, relaxed_test}

-- where each of two paths has a property, so has the one that is taken
either_way : (P : PathTerm → Type 0) (b : Bool) (p q : PathTerm) → P p → P q → P (cond b p q)
either_way P true p q a b = a
either_way P false p q a b = b

mutual
  pub relaxed_fits : (p : PathTerm) → path_size (relaxed p) ≤ path_size p
  relaxed_fits (OfTest c) = relaxed_test_fits c
  relaxed_fits Forward = omega arith
  relaxed_fits Backward = omega arith
  relaxed_fits Next = omega arith
  relaxed_fits Previous = omega arith
  relaxed_fits (Sequence p q) = either_way (λ r. path_size r ≤ path_size p + path_size q + 1) (is_step p && is_existence q) (relaxed p) (Sequence (relaxed p) (relaxed q)) (omega (arith, relaxed_fits p)) (omega (arith, relaxed_fits p, relaxed_fits q))
  relaxed_fits (Choice p q) = omega (arith, relaxed_fits p, relaxed_fits q)
  relaxed_fits (Repetition p n m) = omega (arith, relaxed_fits p)

  relaxed_test_fits : (c : TestTerm) → test_size (relaxed_test c) ≤ test_size c
  relaxed_test_fits IsNode = omega arith
  relaxed_test_fits IsEdge = omega arith
  relaxed_test_fits (HasLabel label) = omega arith
  relaxed_test_fits (HasValue prop value) = omega arith
  relaxed_test_fits (IsBelow k) = omega arith
  relaxed_test_fits DoesExist = omega arith
  relaxed_test_fits (Condition p) = omega (arith, relaxed_fits p)
  relaxed_test_fits (Conjunction c d) = omega (arith, relaxed_test_fits c, relaxed_test_fits d)
  relaxed_test_fits (Disjunction c d) = omega (arith, relaxed_test_fits c, relaxed_test_fits d)
  relaxed_test_fits (Negation c) = omega (arith, relaxed_test_fits c)

mutual
  pub relaxed_in_range : (p : PathTerm) → IsPathInRange p → IsPathInRange (relaxed p)
  relaxed_in_range (OfTest c) r = relaxed_test_in_range c r
  relaxed_in_range Forward r = r
  relaxed_in_range Backward r = r
  relaxed_in_range Next r = r
  relaxed_in_range Previous r = r
  relaxed_in_range (Sequence p q) r = either_way IsPathInRange (is_step p && is_existence q) (relaxed p) (Sequence (relaxed p) (relaxed q)) (relaxed_in_range p r.0) (relaxed_in_range p r.0, relaxed_in_range q r.1)
  relaxed_in_range (Choice p q) r = (relaxed_in_range p r.0, relaxed_in_range q r.1)
  relaxed_in_range (Repetition p n m) r = (relaxed_in_range p r.0, r.1)

  relaxed_test_in_range : (c : TestTerm) → IsTestInRange c → IsTestInRange (relaxed_test c)
  relaxed_test_in_range IsNode r = r
  relaxed_test_in_range IsEdge r = r
  relaxed_test_in_range (HasLabel label) r = r
  relaxed_test_in_range (HasValue prop value) r = r
  relaxed_test_in_range (IsBelow k) r = r
  relaxed_test_in_range DoesExist r = r
  relaxed_test_in_range (Condition p) r = relaxed_in_range p r
  relaxed_test_in_range (Conjunction c d) r = (relaxed_test_in_range c r.0, relaxed_test_in_range d r.1)
  relaxed_test_in_range (Disjunction c d) r = (relaxed_test_in_range c r.0, relaxed_test_in_range d r.1)
  relaxed_test_in_range (Negation c) r = relaxed_test_in_range c r
