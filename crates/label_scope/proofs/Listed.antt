-- The members of some questions, worked out.
use Rattle.std.proofs.Common.{◌≡◌, List, [], ◌∷◌, ◌++◌, None, refl}
use Rattle.itpg_base.specs.Chains.{chain, chain_within}
use Rattle.path_ast.specs.Terms.{Next, Sequence, Repetition}
use Rattle.label_scope.specs.declared.scope.Scope.TheVariants.{All}
use Rattle.label_scope.specs.Members.{Member, worked}
use Rattle.label_scope.specs.Examples.{anything, person, persons, from_to_anything, at_most, two_steps, contact, contacts, within, wait_members, double_step_members, step_to_an_edge, step_members, meetings_from_a_room, meeting_members, two_to_five_steps, later_wait_members, persons_without_meeting, without_meeting_members}

pub wait : worked (from_to_anything anything (at_most 12 Next)) All All ≡ within All wait_members
unfolding chain chain_within
wait = refl

pub later_wait : worked (from_to_anything anything two_to_five_steps) All All ≡ within All later_wait_members
unfolding chain chain_within
later_wait = refl

pub double_steps : worked (from_to_anything anything (at_most 3 two_steps)) All All ≡ within All (double_step_members anything)
unfolding chain chain_within
double_steps = refl

pub labelled_double_steps : worked (from_to_anything person (at_most 3 two_steps)) All All ≡ within persons (double_step_members person)
unfolding chain chain_within
labelled_double_steps = refl

pub first_and_last : (between : List Member) × (worked contacts All All ≡ within All (contacts ∷ []) ++ (between ++ within All (anything ∷ [])))
first_and_last = (worked (Sequence anything (Repetition contact 1 None)) All All, refl)

pub step : worked step_to_an_edge All All ≡ step_members
step = refl

pub meetings : worked meetings_from_a_room All All ≡ meeting_members
unfolding chain chain_within
meetings = refl

pub without_meeting : worked persons_without_meeting All All ≡ without_meeting_members
without_meeting = refl
