-- The text of a path: each path and each test that has parts stands in brackets of its own.
use Rattle.std.specs.Prelude.{ℕ, List, ◌++◌, codes, Option, Some, None}
use Rattle.std.specs.Fmt.{decimal, signed_decimal}
use Rattle.path_ast.specs.Terms.{PathTerm, OfTest, Forward, Backward, Next, Previous, Sequence, Choice, Repetition, TestTerm, IsNode, IsEdge, HasLabel, HasValue, IsBelow, DoesExist, Condition, Conjunction, Disjunction, Negation}

-- two texts with one between them, in brackets
abbrev pub paired : List ℕ → List ℕ → List ℕ → List ℕ
paired a between b = codes "(" ++ a ++ between ++ b ++ codes ")"

-- the most times of a repetition, and `_` if there is no most
abbrev pub most_text : Option ℕ → List ℕ
most_text None = codes "_"
most_text (Some m) = decimal m

-- `:LABEL`
abbrev pub label_text : List ℕ → List ℕ
label_text label = codes ":" ++ label

-- `PROP = 'VALUE'`
abbrev pub value_text : List ℕ → List ℕ → List ℕ
value_text prop value = prop ++ codes " = '" ++ value ++ codes "'"

-- the text of a path, and of a test
abbrev mutual
  pub text_of : PathTerm → List ℕ
  text_of (OfTest c) = codes "{" ++ text_of_test c ++ codes "}"
  text_of Forward = codes "F"
  text_of Backward = codes "B"
  text_of Next = codes "N"
  text_of Previous = codes "P"
  text_of (Sequence a b) = paired (text_of a) (codes "/") (text_of b)
  text_of (Choice a b) = paired (text_of a) (codes " + ") (text_of b)
  text_of (Repetition a n m) = codes "(" ++ text_of a ++ codes "[" ++ decimal n ++ codes "," ++ most_text m ++ codes "])"

  pub text_of_test : TestTerm → List ℕ
  text_of_test IsNode = codes "NODE"
  text_of_test IsEdge = codes "EDGE"
  text_of_test (HasLabel label) = label_text label
  text_of_test (HasValue prop value) = value_text prop value
  text_of_test (IsBelow k) = codes "time < " ++ signed_decimal k
  text_of_test DoesExist = codes "EXISTS"
  text_of_test (Condition a) = codes "?(" ++ text_of a ++ codes ")"
  text_of_test (Conjunction a b) = paired (text_of_test a) (codes " AND ") (text_of_test b)
  text_of_test (Disjunction a b) = paired (text_of_test a) (codes " OR ") (text_of_test b)
  text_of_test (Negation a) = codes "(NOT " ++ text_of_test a ++ codes ")"
