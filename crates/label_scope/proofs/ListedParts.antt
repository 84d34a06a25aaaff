-- The scopes and the members of short paths, worked out.
use Rattle.std.proofs.Common.{◌≡◌, Some, None, refl}
use Rattle.itpg_base.specs.Chains.{chain, chain_within}
use Rattle.path_ast.specs.Terms.{Forward, Next, Repetition}
use Rattle.label_scope.specs.declared.scope.Scope.TheVariants.{All}
use Rattle.label_scope.specs.Members.{worked, doubles}
use Rattle.label_scope.specs.Examples.{persons, rooms, at_most, exactly}
use Rattle.label_scope.specs.ScopedPaths.{AreScoped, AreNarrowed, scoped_tests, scoped_sequences, scoped_choices, scoped_repetitions, narrowed_paths, doors}
use Rattle.label_scope.specs.PartMembers.{through_a_meeting, through_a_meeting_members, step_and_wait, step_and_wait_members, on_from_either, on_from_either_members, person_to_person, room_to_door_members, person_waits, two_waits_members, five_to_seven_members, without_end_members}

pub tests_scoped : AreScoped scoped_tests
tests_scoped = ((refl, refl, refl), ((refl, refl, refl), ((refl, refl, refl), ((refl, refl, refl), ((refl, refl, refl), ((refl, refl, refl), ((refl, refl, refl), ((refl, refl, refl), ((refl, refl, refl), ((refl, refl, refl), ((refl, refl, refl), ((refl, refl, refl), ((refl, refl, refl), ((refl, refl, refl), ((refl, refl, refl), tt)))))))))))))))

pub sequences_scoped : AreScoped scoped_sequences
sequences_scoped = ((refl, refl, refl), ((refl, refl, refl), ((refl, refl, refl), ((refl, refl, refl), ((refl, refl, refl), ((refl, refl, refl), ((refl, refl, refl), ((refl, refl, refl), ((refl, refl, refl), ((refl, refl, refl), ((refl, refl, refl), ((refl, refl, refl), ((refl, refl, refl), ((refl, refl, refl), ((refl, refl, refl), ((refl, refl, refl), tt))))))))))))))))

pub choices_scoped : AreScoped scoped_choices
choices_scoped = ((refl, refl, refl), ((refl, refl, refl), ((refl, refl, refl), ((refl, refl, refl), ((refl, refl, refl), ((refl, refl, refl), ((refl, refl, refl), tt)))))))

pub repetitions_scoped : AreScoped scoped_repetitions
repetitions_scoped = ((refl, refl, refl), ((refl, refl, refl), ((refl, refl, refl), ((refl, refl, refl), ((refl, refl, refl), ((refl, refl, refl), ((refl, refl, refl), tt)))))))

pub paths_narrowed : AreNarrowed narrowed_paths
paths_narrowed = (refl, refl, (refl, refl, (refl, refl, (refl, refl, (refl, refl, (refl, refl, (refl, refl, (refl, refl, (refl, refl, (refl, refl, (refl, refl, tt)))))))))))

pub second_narrows : worked through_a_meeting All All ≡ through_a_meeting_members
second_narrows = refl

pub wait_narrows : worked step_and_wait All persons ≡ step_and_wait_members
wait_narrows = refl

pub either_narrows : worked on_from_either All All ≡ on_from_either_members
either_narrows = refl

pub room_to_door : worked (at_most 2 person_to_person) rooms doors ≡ room_to_door_members
unfolding chain chain_within
room_to_door = refl

pub two_waits : worked (exactly 2 person_waits) All All ≡ two_waits_members
unfolding chain chain_within
two_waits = refl

pub five_to_seven : worked (Repetition Forward 5 (Some 7)) All All ≡ five_to_seven_members
unfolding chain chain_within
five_to_seven = refl

pub without_end : worked (Repetition Next 0 None) All All ≡ without_end_members
unfolding chain chain_within doubles
without_end = refl
