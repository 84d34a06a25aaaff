-- What the hints of a question are: each that the question asks for in vain, once.
use Rattle.std.specs.Prelude.{◌≡◌, ◌↔◌, List, [], ◌∷◌, ◌⊎◌, Bool, true, false, IsTrue}
use Rattle.itpg_base.specs.Graphs.{Graph}
use Rattle.itpg_base.specs.Lists.{Among}
use Rattle.path_ast.specs.Terms.{PathTerm, OfTest, Forward, Backward, Next, Previous, Sequence, Choice, Repetition, TestTerm, IsNode, IsEdge, HasLabel, HasValue, IsBelow, DoesExist, Condition, Conjunction, Disjunction, Negation}
use Rattle.label_scope.specs.Scopes.{source_scope, target_scope}
use Rattle.question_hints.specs.declared.hint.Hint.{Hint}
use Rattle.question_hints.specs.declared.hint.Hint.TheVariants.{NoLabel, NoProperty, NoValue, EdgeInRound, EndsOnEdge, SelectiveEndLast}
use Rattle.question_hints.specs.Asked.{asks_node}
use Rattle.question_hints.specs.Kinds.{is_nowhere, leads_of}
use Rattle.question_hints.specs.Forms.{is_selective_last, possible_hints}
use Rattle.question_hints.specs.Certain.{IsCertain, AreCertain}

-- where a node is asked for, the label that is asked for with it
abbrev pub AsksRound : Bool → TestTerm → Hint → Type 0
AsksRound true (HasLabel label) h = h ≡ EdgeInRound label
AsksRound true c h = ⊥
AsksRound false c h = ⊥

-- somewhere the path, or the test, asks for what the hint names
abbrev mutual
  pub PathAsks : PathTerm → Hint → Type 0
  PathAsks (OfTest c) h = TestAsks c h
  PathAsks Forward h = ⊥
  PathAsks Backward h = ⊥
  PathAsks Next h = ⊥
  PathAsks Previous h = ⊥
  PathAsks (Sequence p q) h = PathAsks p h ⊎ PathAsks q h
  PathAsks (Choice p q) h = PathAsks p h ⊎ PathAsks q h
  PathAsks (Repetition p n m) h = PathAsks p h

  pub TestAsks : TestTerm → Hint → Type 0
  TestAsks IsNode h = ⊥
  TestAsks IsEdge h = ⊥
  TestAsks (HasLabel label) h = h ≡ NoLabel label
  TestAsks (HasValue prop value) h = (h ≡ NoProperty prop) ⊎ (h ≡ NoValue prop value)
  TestAsks (IsBelow k) h = ⊥
  TestAsks DoesExist h = ⊥
  TestAsks (Condition p) h = PathAsks p h
  TestAsks (Conjunction c d) h = (TestAsks c h ⊎ TestAsks d h) ⊎ AsksRound (asks_node c) d h
  TestAsks (Disjunction c d) h = TestAsks c h ⊎ TestAsks d h
  TestAsks (Negation c) h = TestAsks c h

-- the path asks for what the hint names, or by its form it leads nowhere, or its selective end stands last
abbrev pub IsPossible : PathTerm → Hint → Type 0
IsPossible p h = (PathAsks p h ⊎ ((h ≡ EndsOnEdge) × IsTrue (is_nowhere (leads_of p)))) ⊎ ((h ≡ SelectiveEndLast) × IsTrue (is_selective_last (source_scope p) (target_scope p)))

-- no hint stands in the list twice
abbrev pub AreDifferent : List Hint → Type 0
AreDifferent [] = Unit {0}
AreDifferent (h ∷ rest) = (¬ Among rest h) × AreDifferent rest

-- the hints of a question on a graph
pub record AreHints (g : Graph) (p : PathTerm) (hints : List Hint) : Type 0 where
  -- a hint is listed exactly if the question can give it and it is certain
  pub listed : (h : Hint) → Among hints h ↔ (IsPossible p h × IsCertain g h)
  pub once : AreDifferent hints
  -- in the order in which the path is read
  pub order : AreCertain g (possible_hints p) hints
