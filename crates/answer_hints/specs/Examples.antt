-- Paths with what they are without the tests of existence behind their steps, and with their top repetitions, written out by hand.
use Rattle.std.specs.Prelude.{◌≡◌, [], ◌∷◌, Some, None, codes}
use Rattle.path_ast.specs.Terms.{PathTerm, OfTest, Forward, Backward, Next, Previous, Sequence, Choice, Repetition, IsNode, HasLabel, DoesExist, Condition, Conjunction, Negation}
use Rattle.answer_hints.specs.Relaxed.{relaxed}
use Rattle.answer_hints.specs.Repeated.{Repeating, top_repetitions, told_at}
use Rattle.answer_hints.specs.Texts.{text_of_told}

abbrev pub exists : PathTerm
exists = OfTest DoesExist

abbrev pub met : PathTerm
met = OfTest (HasLabel (codes "meets"))

-- `FWD/:meets/FWD`, and `F/:meets/F`
abbrev pub round : PathTerm
round = Sequence (Sequence (Sequence Forward exists) met) (Sequence Forward exists)

abbrev pub free_round : PathTerm
free_round = Sequence (Sequence Forward met) Forward

-- `(FWD + BWD)*`, and `(F + B)*`
abbrev pub either_way : PathTerm
either_way = Repetition (Choice (Sequence Forward exists) (Sequence Backward exists)) 0 None

abbrev pub free_either_way : PathTerm
free_either_way = Repetition (Choice Forward Backward) 0 None

-- `NEXT/{NODE AND EXISTS}`, which asks of no step along an edge
abbrev pub later : PathTerm
later = Sequence (Sequence Next exists) (OfTest (Conjunction IsNode DoesExist))

-- `{NOT ?(FWD)}`, and `{NOT ?(F)}`
abbrev pub without_edges : PathTerm
without_edges = OfTest (Negation (Condition (Sequence Forward exists)))

abbrev pub free_without_edges : PathTerm
free_without_edges = OfTest (Negation (Condition Forward))

-- each path is this without the tests of existence behind its steps along edges
pub record AreRelaxed : Type 0 where
  pub steps : relaxed round ≡ free_round
  pub repeated : relaxed either_way ≡ free_either_way
  pub in_time : relaxed later ≡ later
  pub in_tests : relaxed without_edges ≡ free_without_edges
  pub again : relaxed free_round ≡ free_round

-- `FWD[0,_]`, `N[0,2]` and `(N[0,3]/F)[1,_]`
abbrev pub all_forward : Repeating
all_forward = record { body = Sequence Forward exists; least = 0; most = None }

abbrev pub two_later : Repeating
two_later = record { body = Next; least = 0; most = Some 2 }

abbrev pub waits_between : Repeating
waits_between = record { body = Sequence (Repetition Next 0 (Some 3)) Forward; least = 1; most = None }

-- `FWD[0,_]/(N[0,2] + P)`: both stand at the top, in this order
abbrev pub then_or : PathTerm
then_or = Sequence (Repetition (Sequence Forward exists) 0 None) (Choice (Repetition Next 0 (Some 2)) Previous)

-- `(N[0,3]/F)[1,_]`: the one within the other doesn't
abbrev pub one_within : PathTerm
one_within = Repetition (Sequence (Repetition Next 0 (Some 3)) Forward) 1 None

-- `{?(N[0,_])}/B`: one in a condition doesn't
abbrev pub in_a_condition : PathTerm
in_a_condition = Sequence (OfTest (Condition (Repetition Next 0 None))) Backward

-- each path has these top repetitions, and this is told of the first of them where four times are enough
pub record HaveTopRepetitions : Type 0 where
  pub both : top_repetitions then_or ≡ all_forward ∷ two_later ∷ []
  pub whole : top_repetitions one_within ≡ waits_between ∷ []
  pub none : top_repetitions in_a_condition ≡ []
  pub text : text_of_told (told_at all_forward 4) ≡ codes "((F/{EXISTS})[0,_]) adds nothing from 4 times on; write ((F/{EXISTS})[0,4])"
