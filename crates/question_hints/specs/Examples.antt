-- Paths with the hints that they can give, written out by hand: each rule has one.
use Rattle.std.specs.Prelude.{◌≡◌, ℕ, true, false, List, [], ◌∷◌, Some, None, codes}
use Rattle.path_ast.specs.Terms.{PathTerm, OfTest, Forward, Backward, Next, Previous, Sequence, Choice, Repetition, TestTerm, IsNode, IsEdge, HasLabel, HasValue, DoesExist, Condition, Conjunction, Disjunction, Negation}
use Rattle.question_hints.specs.declared.hint.Hint.TheVariants.{NoLabel, NoProperty, NoValue, EdgeInRound, EndsOnEdge, SelectiveEndLast}
use Rattle.question_hints.specs.Forms.{possible_hints}
use Rattle.question_hints.specs.Horizons.{passes_freely}

-- a node that exists, and one with a label
abbrev pub a_node : TestTerm
a_node = Conjunction IsNode DoesExist

abbrev pub a_node_with : List ℕ → TestTerm
a_node_with label = Conjunction a_node (HasLabel label)

abbrev pub step : PathTerm
step = Sequence Forward (OfTest DoesExist)

abbrev pub between : PathTerm → PathTerm → PathTerm → PathTerm
between a p b = Sequence (Sequence a p) b

-- `(x:Persn {test = 'pos'})`
abbrev pub one_pattern : PathTerm
one_pattern = OfTest (Conjunction (a_node_with (codes "Persn")) (HasValue (codes "test") (codes "pos")))

-- `(x)-/FWD/-(y)`
abbrev pub to_an_edge : PathTerm
to_an_edge = between (OfTest a_node) step (OfTest a_node)

-- `(x)-/FWD/:meets/FWD/-(y:Person)`
abbrev pub to_a_person : PathTerm
to_a_person = between (OfTest a_node) (Sequence (Sequence step (OfTest (HasLabel (codes "meets")))) step) (OfTest (a_node_with (codes "Person")))

-- `(x {?(F/{NODE})})`, where only an edge could be
abbrev pub of_no_kind : PathTerm
of_no_kind = OfTest (Conjunction a_node (Condition (Sequence Forward (OfTest IsNode))))

-- `:a/{NOT :a}[0,_]`
abbrev pub twice_asked : PathTerm
twice_asked = Sequence (OfTest (HasLabel (codes "a"))) (Repetition (OfTest (Negation (HasLabel (codes "a")))) 0 None)

-- `(F + P/B)[1,2]/{:b OR EDGE}`, which can lead from either kind to either
abbrev pub on_either_way : PathTerm
on_either_way = Sequence (Repetition (Choice Forward (Sequence Previous Backward)) 1 (Some 2)) (OfTest (Disjunction (HasLabel (codes "b")) IsEdge))

-- each path can give these hints
pub record ArePossible : Type 0 where
  pub pattern : possible_hints one_pattern ≡ NoLabel (codes "Persn") ∷ EdgeInRound (codes "Persn") ∷ NoProperty (codes "test") ∷ NoValue (codes "test") (codes "pos") ∷ []
  pub edge : possible_hints to_an_edge ≡ EndsOnEdge ∷ []
  pub person : possible_hints to_a_person ≡ NoLabel (codes "meets") ∷ NoLabel (codes "Person") ∷ EdgeInRound (codes "Person") ∷ SelectiveEndLast ∷ []
  pub kind : possible_hints of_no_kind ≡ EndsOnEdge ∷ []
  pub twice : possible_hints twice_asked ≡ NoLabel (codes "a") ∷ []
  pub either : possible_hints on_either_way ≡ NoLabel (codes "b") ∷ []

-- the path to where the object exists, as `NEXT` is that of `N`
abbrev pub existing : PathTerm → PathTerm
existing p = Sequence p (OfTest DoesExist)

-- `p[0,_]`, which is also written `p*`
abbrev pub endless : PathTerm → PathTerm
endless p = Repetition p 0 None

-- some paths pass time freely, and others don't
pub record ArePassing : Type 0 where
  -- `N*`, `P[3,_]`
  pub next : passes_freely (endless Next) ≡ true
  pub previous : passes_freely (Repetition Previous 3 None) ≡ true
  -- `NEXT*`, `(F/N/{EXISTS})*`, `((N + P)/{EXISTS}/F)*`
  pub stepping : passes_freely (endless (existing Next)) ≡ false
  pub behind : passes_freely (endless (existing (Sequence Forward Next))) ≡ false
  pub either : passes_freely (endless (Sequence (existing (Choice Next Previous)) Forward)) ≡ false
  -- `(F/N)[0,_]`, `(N/F/{EXISTS})*`, `(N/{NODE})*`, `N*/{EXISTS}`
  pub body : passes_freely (endless (Sequence Forward Next)) ≡ true
  pub first : passes_freely (endless (existing (Sequence Next Forward))) ≡ true
  pub node : passes_freely (endless (Sequence Next (OfTest IsNode))) ≡ true
  pub last : passes_freely (existing (endless Next)) ≡ true
  -- `N[0,9]`, `N/F*`, and `(N[0,9]/F)*`, which has no end for all that
  pub bounded : passes_freely (Repetition Next 0 (Some 9)) ≡ false
  pub beside : passes_freely (Sequence Next (endless Forward)) ≡ false
  pub within : passes_freely (endless (Sequence (Repetition Next 0 (Some 9)) Forward)) ≡ true
  -- `{NODE AND NOT ?(F + N*)}`, `{?(NEXT*)}`, `(F/{NODE OR ?(P)})*`
  pub asked : passes_freely (OfTest (Conjunction IsNode (Negation (Condition (Choice Forward (endless Next)))))) ≡ true
  pub condition : passes_freely (OfTest (Condition (endless (existing Next)))) ≡ false
  pub looking : passes_freely (endless (Sequence Forward (OfTest (Disjunction IsNode (Condition Previous))))) ≡ true
  -- `{EXISTS AND ..}` behind a step is no test {EXISTS}
  pub pattern : passes_freely (endless (Sequence Next (OfTest a_node))) ≡ true
