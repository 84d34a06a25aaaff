-- Paths and scopes with their texts, written out by hand: each form of path and of test has one.
use Rattle.std.specs.Prelude.{◌≡◌, [], ◌∷◌, Some, None, codes, pos}
use Rattle.path_ast.specs.Terms.{PathTerm, OfTest, Forward, Backward, Next, Previous, Sequence, Choice, Repetition, IsNode, IsEdge, HasLabel, HasValue, IsBelow, DoesExist, Condition, Conjunction, Disjunction, Negation}
use Rattle.label_scope.specs.declared.scope.Scope.TheVariants.{All, These}
use Rattle.path_text.specs.Texts.{text_of}
use Rattle.path_text.specs.ScopeTexts.{text_of_scope}

-- `FWD/:meets`
abbrev pub to_a_meeting : PathTerm
to_a_meeting = Sequence (Sequence Forward (OfTest DoesExist)) (OfTest (HasLabel (codes "meets")))

-- `B/N[2,5]/P[0,_]`
abbrev pub back_and_wait : PathTerm
back_and_wait = Sequence (Sequence Backward (Repetition Next 2 (Some 5))) (Repetition Previous 0 None)

-- `(N + P)[12,12]`
abbrev pub either_way : PathTerm
either_way = Repetition (Choice Next Previous) 12 (Some 12)

-- `{NODE AND test = 'pos' OR NOT EDGE}`
abbrev pub positive_node : PathTerm
positive_node = OfTest (Disjunction (Conjunction IsNode (HasValue (codes "test") (codes "pos"))) (Negation IsEdge))

-- `{time < 12 AND ?(F)}`
abbrev pub early_leaver : PathTerm
early_leaver = OfTest (Conjunction (IsBelow (pos 12)) (Condition Forward))

-- each path has its text
pub record AreTexts : Type 0 where
  pub meeting : text_of to_a_meeting ≡ codes "((F/{EXISTS})/{:meets})"
  pub waits : text_of back_and_wait ≡ codes "((B/(N[2,5]))/(P[0,_]))"
  pub either : text_of either_way ≡ codes "((N + P)[12,12])"
  pub positive : text_of positive_node ≡ codes "{((NODE AND test = 'pos') OR (NOT EDGE))}"
  pub early : text_of early_leaver ≡ codes "{(time < 12 AND ?(F))}"

-- and so has each scope
pub record AreScopeTexts : Type 0 where
  pub everything : text_of_scope All ≡ codes "all"
  pub nothing : text_of_scope (These []) ≡ codes "none"
  pub one : text_of_scope (These (codes "Person" ∷ [])) ≡ codes "Person"
  pub two : text_of_scope (These (codes "Person" ∷ codes "Room" ∷ [])) ≡ codes "Person+Room"
