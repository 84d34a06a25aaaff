-- The worked members of some questions, listed by hand.
use Rattle.std.specs.Prelude.{ℕ, List, [], ◌∷◌, Some, None, codes}
use Rattle.path_ast.specs.Terms.{PathTerm, OfTest, Forward, Next, Sequence, Choice, Repetition, IsNode, HasLabel, DoesExist, Condition, Conjunction, Negation}
use Rattle.label_scope.specs.declared.scope.Scope.{Scope}
use Rattle.label_scope.specs.declared.scope.Scope.TheVariants.{All, These}
use Rattle.label_scope.specs.Scopes.{one_label}
use Rattle.label_scope.specs.Members.{Member}

-- (x)
abbrev pub anything : PathTerm
anything = OfTest (Conjunction IsNode DoesExist)

-- (x:Person)
abbrev pub person : PathTerm
person = OfTest (Conjunction (Conjunction IsNode DoesExist) (HasLabel (codes "Person")))

-- the objects with the label Person
abbrev pub persons : Scope
persons = one_label (codes "Person")

-- start -/ path /- (y)
abbrev pub from_to_anything : PathTerm → PathTerm → PathTerm
from_to_anything start path = Sequence (Sequence start path) anything

-- the path at most so many times
abbrev pub at_most : ℕ → PathTerm → PathTerm
at_most m path = Repetition path 0 (Some m)

-- the path exactly so many times
abbrev pub exactly : ℕ → PathTerm → PathTerm
exactly n path = Repetition path n (Some n)

-- N/N
abbrev pub two_steps : PathTerm
two_steps = Sequence Next Next

-- FWD, and NEXT
abbrev pub forward_existing : PathTerm
forward_existing = Sequence Forward (OfTest DoesExist)

abbrev pub next_existing : PathTerm
next_existing = Sequence Next (OfTest DoesExist)

-- FWD/:meets/FWD/NEXT*
abbrev pub contact : PathTerm
contact = Sequence (Sequence (Sequence forward_existing (OfTest (HasLabel (codes "meets")))) forward_existing) (Repetition next_existing 0 None)

-- (x)-/(FWD/:meets/FWD/NEXT*)[1,_]/-(y)
abbrev pub contacts : PathTerm
contacts = from_to_anything anything (Repetition contact 1 None)

-- each of the paths between the scope and itself
abbrev pub within : Scope → List PathTerm → List Member
within scope [] = []
within scope (p ∷ ps) = record { path = p; sources = scope; targets = scope } ∷ within scope ps

-- the members of (x)-/N[0,12]/-(y)
abbrev pub wait_members : List PathTerm
wait_members =
    from_to_anything anything (at_most 12 Next)
    ∷ Sequence anything (at_most 12 Next)
    ∷ anything
    ∷ at_most 12 Next
    ∷ Next
    ∷ at_most 1 Next ∷ at_most 2 Next ∷ at_most 3 Next ∷ at_most 6 Next ∷ at_most 6 Next ∷ at_most 12 Next ∷ at_most 12 Next
    ∷ anything
    ∷ []

-- N[2,5]
abbrev pub two_to_five_steps : PathTerm
two_to_five_steps = Repetition Next 2 (Some 5)

-- the members of (x)-/N[2,5]/-(y)
abbrev pub later_wait_members : List PathTerm
later_wait_members =
    from_to_anything anything two_to_five_steps
    ∷ Sequence anything two_to_five_steps
    ∷ anything
    ∷ two_to_five_steps
    ∷ Next
    ∷ exactly 1 Next ∷ exactly 2 Next ∷ exactly 2 Next
    ∷ at_most 1 Next ∷ at_most 2 Next ∷ at_most 3 Next
    ∷ anything
    ∷ []

-- :Person and :meets
abbrev pub at_person : PathTerm
at_person = OfTest (HasLabel (codes "Person"))

abbrev pub at_meets : PathTerm
at_meets = OfTest (HasLabel (codes "meets"))

-- (x:Room)
abbrev pub room : PathTerm
room = OfTest (Conjunction (Conjunction IsNode DoesExist) (HasLabel (codes "Room")))

abbrev pub rooms : Scope
rooms = one_label (codes "Room")

abbrev pub meetings : Scope
meetings = one_label (codes "meets")

abbrev pub persons_and_rooms : Scope
persons_and_rooms = These (codes "Person" ∷ codes "Room" ∷ [])

-- :Person/F, then /:meets, then /F, then /:Person
abbrev pub to_edge : PathTerm
to_edge = Sequence at_person Forward

abbrev pub to_meeting : PathTerm
to_meeting = Sequence to_edge at_meets

abbrev pub through_meeting : PathTerm
through_meeting = Sequence to_meeting Forward

abbrev pub meeting : PathTerm
meeting = Sequence through_meeting at_person

-- (x:Room)-/(:Person/F/:meets/F/:Person)[0,2]/-(y:Person)
abbrev pub meetings_from_a_room : PathTerm
meetings_from_a_room = Sequence (Sequence room (at_most 2 meeting)) person

-- (x:Person)-/N/F/-(y)
abbrev pub step_to_an_edge : PathTerm
step_to_an_edge = from_to_anything person (Sequence Next Forward)

-- the path between the two scopes
abbrev pub between : Scope → Scope → PathTerm → Member
between sources targets path = record { path = path; sources = sources; targets = targets }

-- the members of (x:Person)-/N/F/-(y)
abbrev pub step_members : List Member
step_members =
    between persons All step_to_an_edge
    ∷ between persons All (Sequence person (Sequence Next Forward))
    ∷ between persons persons person
    ∷ between persons All (Sequence Next Forward)
    ∷ between persons persons Next
    ∷ between persons All Forward
    ∷ between All All anything
    ∷ []

-- the members of (x:Room)-/(:Person/F/:meets/F/:Person)[0,2]/-(y:Person)
abbrev pub meeting_members : List Member
meeting_members =
    between rooms persons meetings_from_a_room
    ∷ between rooms persons (Sequence room (at_most 2 meeting))
    ∷ between rooms rooms room
    ∷ between rooms persons (at_most 2 meeting)
    ∷ between persons_and_rooms persons_and_rooms meeting
    ∷ between persons_and_rooms persons through_meeting
    ∷ between persons_and_rooms meetings to_meeting
    ∷ between persons_and_rooms meetings to_edge
    ∷ between persons_and_rooms persons at_person
    ∷ between persons meetings Forward
    ∷ between meetings meetings at_meets
    ∷ between meetings persons Forward
    ∷ between persons persons_and_rooms at_person
    ∷ between persons_and_rooms persons_and_rooms (at_most 1 meeting)
    ∷ between persons_and_rooms persons_and_rooms (at_most 2 meeting)
    ∷ between persons_and_rooms persons_and_rooms (at_most 2 meeting)
    ∷ between persons persons person
    ∷ []

-- F/:meets
abbrev pub into_meeting : PathTerm
into_meeting = Sequence Forward at_meets

-- {NOT ?(F/:meets + N)}
abbrev pub without_meeting_or_step : PathTerm
without_meeting_or_step = OfTest (Negation (Condition (Choice into_meeting Next)))

-- (x:Person)-/{NOT ?(F/:meets + N)}/-(y)
abbrev pub persons_without_meeting : PathTerm
persons_without_meeting = from_to_anything person without_meeting_or_step

-- the members of (x:Person)-/{NOT ?(F/:meets + N)}/-(y)
abbrev pub without_meeting_members : List Member
without_meeting_members =
    between persons persons persons_without_meeting
    ∷ between persons persons (Sequence person without_meeting_or_step)
    ∷ between persons persons person
    ∷ between persons persons without_meeting_or_step
    ∷ between persons All (Choice into_meeting Next)
    ∷ between persons meetings into_meeting
    ∷ between persons meetings Forward
    ∷ between meetings meetings at_meets
    ∷ between persons persons Next
    ∷ between persons persons anything
    ∷ []

-- the members of start -/(N/N)[0,3]/-(y)
abbrev pub double_step_members : PathTerm → List PathTerm
double_step_members start =
    from_to_anything start (at_most 3 two_steps)
    ∷ Sequence start (at_most 3 two_steps)
    ∷ start
    ∷ at_most 3 two_steps
    ∷ two_steps ∷ Next ∷ Next
    ∷ at_most 1 two_steps ∷ at_most 2 two_steps ∷ at_most 3 two_steps
    ∷ anything
    ∷ []
