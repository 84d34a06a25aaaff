-- The hints that a question can give by its form, whatever the graph is.
use Rattle.std.specs.Prelude.{List, Bool, true, false, ◌||◌}
use Rattle.path_ast.specs.Terms.{PathTerm, OfTest, Forward, Backward, Next, Previous, Sequence, Choice, Repetition, TestTerm, IsNode, IsEdge, HasLabel, HasValue, IsBelow, DoesExist, Condition, Conjunction, Disjunction, Negation}
use Rattle.question_hints.specs.declared.hint.Hint.{Hint}
use Rattle.question_hints.specs.declared.hint.Hint.TheVariants.{NoLabel, NoProperty, NoValue, EdgeInRound}
use Rattle.question_hints.specs.Same.{with_hint}

-- by its form the test holds of nodes alone
abbrev pub asks_node : TestTerm → Bool
asks_node IsNode = true
asks_node (Conjunction a b) = asks_node a || asks_node b
asks_node IsEdge = false
asks_node (HasLabel label) = false
asks_node (HasValue prop value) = false
asks_node (IsBelow k) = false
asks_node DoesExist = false
asks_node (Condition p) = false
asks_node (Disjunction a b) = false
asks_node (Negation a) = false

-- where a node is asked for, a label that is asked for with it may be one of edges
abbrev pub with_round : Bool → TestTerm → List Hint → List Hint
with_round true (HasLabel label) hints = with_hint (EdgeInRound label) hints
with_round true c hints = hints
with_round false c hints = hints

-- these hints and those of a path, or of a test, in the order in which it is read, each once: a label may be missing, and a property,
-- or its value
abbrev mutual
  pub path_hints : PathTerm → List Hint → List Hint
  path_hints (OfTest c) hints = test_hints c hints
  path_hints Forward hints = hints
  path_hints Backward hints = hints
  path_hints Next hints = hints
  path_hints Previous hints = hints
  path_hints (Sequence a b) hints = path_hints b (path_hints a hints)
  path_hints (Choice a b) hints = path_hints b (path_hints a hints)
  path_hints (Repetition a n m) hints = path_hints a hints

  pub test_hints : TestTerm → List Hint → List Hint
  test_hints IsNode hints = hints
  test_hints IsEdge hints = hints
  test_hints (HasLabel label) hints = with_hint (NoLabel label) hints
  test_hints (HasValue prop value) hints = with_hint (NoValue prop value) (with_hint (NoProperty prop) hints)
  test_hints (IsBelow k) hints = hints
  test_hints DoesExist hints = hints
  test_hints (Condition a) hints = path_hints a hints
  test_hints (Conjunction a b) hints = with_round (asks_node a) b (test_hints b (test_hints a hints))
  test_hints (Disjunction a b) hints = test_hints b (test_hints a hints)
  test_hints (Negation a) hints = test_hints a hints
