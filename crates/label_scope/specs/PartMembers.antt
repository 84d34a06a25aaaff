-- The worked members of short paths, listed by hand: each rule of what lies between two parts has a path that only it decides.
use Rattle.std.specs.Prelude.{ℕ, List, [], ◌∷◌, Some, None, codes}
use Rattle.path_ast.specs.Terms.{PathTerm, OfTest, Forward, Next, Sequence, Choice, Repetition}
use Rattle.label_scope.specs.declared.scope.Scope.{Scope}
use Rattle.label_scope.specs.declared.scope.Scope.TheVariants.{All, These}
use Rattle.label_scope.specs.Members.{Member}
use Rattle.label_scope.specs.Examples.{persons, rooms, meetings, at_person, at_meets, at_most, exactly, between, within}
use Rattle.label_scope.specs.ScopedPaths.{is_room, rooms_and_meetings, doors, from_person, to_meets, to_room}

-- F/(:meets/F): only the second part says that the middle is a meeting
abbrev pub out_of_meeting : PathTerm
out_of_meeting = Sequence at_meets Forward

abbrev pub through_a_meeting : PathTerm
through_a_meeting = Sequence Forward out_of_meeting

abbrev pub through_a_meeting_members : List Member
through_a_meeting_members =
    between All All through_a_meeting
    ∷ between All meetings Forward
    ∷ between meetings All out_of_meeting
    ∷ between meetings meetings at_meets
    ∷ between meetings All Forward
    ∷ []

-- F/N to a person: N keeps its object, so F leads to persons
abbrev pub step_and_wait : PathTerm
step_and_wait = Sequence Forward Next

abbrev pub step_and_wait_members : List Member
step_and_wait_members =
    between All persons step_and_wait
    ∷ between All persons Forward
    ∷ between persons persons Next
    ∷ []

-- (F/:meets + F/:Room)/F: the last step starts where either choice can end
abbrev pub to_either : PathTerm
to_either = Choice to_meets to_room

abbrev pub on_from_either : PathTerm
on_from_either = Sequence to_either Forward

abbrev pub on_from_either_members : List Member
on_from_either_members =
    between All All on_from_either
    ∷ between All rooms_and_meetings to_either
    ∷ between All rooms_and_meetings to_meets
    ∷ between All meetings Forward
    ∷ between meetings rooms_and_meetings at_meets
    ∷ between All rooms_and_meetings to_room
    ∷ between All rooms Forward
    ∷ between rooms rooms_and_meetings (OfTest is_room)
    ∷ between rooms_and_meetings All Forward
    ∷ []

-- (:Person/F/:Person)[0,2] from a room to a door: it may pass rooms, doors, and where it can end and start again
abbrev pub person_to_person : PathTerm
person_to_person = Sequence from_person at_person

abbrev pub doors_persons_and_rooms : Scope
doors_persons_and_rooms = These (codes "Door" ∷ codes "Person" ∷ codes "Room" ∷ [])

abbrev pub room_to_door_members : List Member
room_to_door_members =
    between rooms doors (at_most 2 person_to_person)
    ∷ between doors_persons_and_rooms doors_persons_and_rooms person_to_person
    ∷ between doors_persons_and_rooms persons from_person
    ∷ between doors_persons_and_rooms persons at_person
    ∷ between persons persons Forward
    ∷ between persons doors_persons_and_rooms at_person
    ∷ within doors_persons_and_rooms (at_most 1 person_to_person ∷ at_most 2 person_to_person ∷ at_most 2 person_to_person ∷ [])

-- (:Person/N)[2,2]: the body keeps its object, so everything lies within persons
abbrev pub person_waits : PathTerm
person_waits = Sequence at_person Next

abbrev pub two_waits_members : List Member
two_waits_members =
    within persons
    (exactly 2 person_waits ∷ person_waits ∷ at_person ∷ Next ∷ exactly 1 person_waits ∷ exactly 2 person_waits ∷ exactly 2 person_waits ∷ [])

-- F[5,7]: the powers on the way to 5, then the unions on the way to the 2 that are left
abbrev pub five_to_seven_members : List Member
five_to_seven_members =
    within All
    (Repetition Forward 5 (Some 7) ∷ Forward
    ∷ exactly 1 Forward ∷ exactly 2 Forward ∷ exactly 2 Forward ∷ exactly 4 Forward ∷ exactly 5 Forward
    ∷ at_most 1 Forward ∷ at_most 2 Forward ∷ at_most 2 Forward ∷ [])

-- the powers of two up to 2^60
abbrev pub powers_of_two : List ℕ
powers_of_two =
    1 ∷ 2 ∷ 4 ∷ 8 ∷ 16 ∷ 32 ∷ 64 ∷ 128
    ∷ 256 ∷ 512 ∷ 1024 ∷ 2048 ∷ 4096 ∷ 8192 ∷ 16384 ∷ 32768
    ∷ 65536 ∷ 131072 ∷ 262144 ∷ 524288 ∷ 1048576 ∷ 2097152 ∷ 4194304 ∷ 8388608
    ∷ 16777216 ∷ 33554432 ∷ 67108864 ∷ 134217728 ∷ 268435456 ∷ 536870912 ∷ 1073741824 ∷ 2147483648
    ∷ 4294967296 ∷ 8589934592 ∷ 17179869184 ∷ 34359738368 ∷ 68719476736 ∷ 137438953472 ∷ 274877906944 ∷ 549755813888
    ∷ 1099511627776 ∷ 2199023255552 ∷ 4398046511104 ∷ 8796093022208 ∷ 17592186044416 ∷ 35184372088832 ∷ 70368744177664 ∷ 140737488355328
    ∷ 281474976710656 ∷ 562949953421312 ∷ 1125899906842624 ∷ 2251799813685248 ∷ 4503599627370496 ∷ 9007199254740992 ∷ 18014398509481984 ∷ 36028797018963968
    ∷ 72057594037927936 ∷ 144115188075855872 ∷ 288230376151711744 ∷ 576460752303423488 ∷ 1152921504606846976
    ∷ []

abbrev pub each_at_most : PathTerm → List ℕ → List PathTerm
each_at_most p [] = []
each_at_most p (k ∷ ks) = at_most k p ∷ each_at_most p ks

-- N*: the union to each power of two
abbrev pub without_end_members : List Member
without_end_members = within All (Repetition Next 0 None ∷ Next ∷ each_at_most Next powers_of_two)
