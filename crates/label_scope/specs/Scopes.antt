-- Scopes: which objects can stand at an end of a path by their labels alone.
use Rattle.std.specs.Prelude.{ℕ, zero, suc, List, [], ◌∷◌, Bool, true, false, Contains}
use Rattle.itpg_base.specs.Words.{Word}
use Rattle.itpg_base.specs.Graphs.{Graph, ObjectIs}
use Rattle.path_ast.specs.Terms.{PathTerm, OfTest, Forward, Backward, Next, Previous, Sequence, Choice, Repetition, TestTerm, IsNode, IsEdge, HasLabel, HasValue, IsBelow, DoesExist, Condition, Conjunction, Disjunction, Negation}
use Rattle.path_ast.specs.Meaning.{keeps_object}
use Rattle.label_scope.specs.declared.scope.Scope.{Scope}
use Rattle.label_scope.specs.declared.scope.Scope.TheVariants.{All, These}
use Rattle.label_scope.specs.Labels.{labels_of_either}

-- a scope has a set of labels where it is `All`, or has some label of the set
abbrev pub Has : Scope → List Word → Type 0
Has All labels = Unit {0}
Has (These names) labels = (label : Word) × Contains labels label × Contains names label

-- an object is within a scope where the scope has its set of labels
abbrev pub IsWithin : Scope → Graph → ℕ → Type 0
IsWithin scope g o = ObjectIs g o (λ x. Has scope x.labels)

-- two scopes met: of two lists the first, and `All` leaves the other as it is. No list has exactly the objects of two lists, since
-- an object may have one label of each
abbrev pub met : Scope → Scope → Scope
met All b = b
met (These names) b = These names

-- two scopes joined: the labels of either
abbrev pub joined : Scope → Scope → Scope
joined All b = All
joined (These names) All = All
joined (These names) (These others) = These (labels_of_either names others)

-- the scope of one label
abbrev pub one_label : Word → Scope
one_label label = These (label ∷ [])

-- met with another scope where the fact holds
abbrev pub met_where : Bool → Scope → Scope → Scope
met_where true a b = met a b
met_where false a b = a

-- a path that may be repeated no time can start and end anywhere
abbrev pub unless_never : ℕ → Scope → Scope
unless_never zero a = All
unless_never (suc n) a = a

-- where a path can start, and where a test can hold
abbrev mutual
  pub source_scope : PathTerm → Scope
  source_scope (OfTest c) = test_scope c
  source_scope Forward = All
  source_scope Backward = All
  source_scope Next = All
  source_scope Previous = All
  source_scope (Sequence p q) = met_where (keeps_object p) (source_scope p) (source_scope q)
  source_scope (Choice p q) = joined (source_scope p) (source_scope q)
  source_scope (Repetition p n m) = unless_never n (source_scope p)

  pub test_scope : TestTerm → Scope
  test_scope IsNode = All
  test_scope IsEdge = All
  test_scope (HasLabel label) = one_label label
  test_scope (HasValue prop value) = All
  test_scope (IsBelow k) = All
  test_scope DoesExist = All
  test_scope (Condition p) = source_scope p
  test_scope (Conjunction c d) = met (test_scope c) (test_scope d)
  test_scope (Disjunction c d) = joined (test_scope c) (test_scope d)
  test_scope (Negation c) = All

-- where a path can end
abbrev pub target_scope : PathTerm → Scope
target_scope (OfTest c) = test_scope c
target_scope Forward = All
target_scope Backward = All
target_scope Next = All
target_scope Previous = All
target_scope (Sequence p q) = met_where (keeps_object q) (target_scope q) (target_scope p)
target_scope (Choice p q) = joined (target_scope p) (target_scope q)
target_scope (Repetition p n m) = unless_never n (target_scope p)
