-- Footprints of paths, written out by hand: each rule of the definitions has a path that only it decides.
use Rattle.std.specs.Prelude.{◌≡◌, List, [], ◌∷◌, None, codes, pos}
use Rattle.itpg_base.specs.Words.{Word}
use Rattle.path_ast.specs.Terms.{PathTerm, OfTest, Forward, Backward, Next, Previous, Sequence, Choice, Repetition, TestTerm, IsNode, IsEdge, HasLabel, HasValue, IsBelow, DoesExist, Condition, Conjunction, Disjunction, Negation}
use Rattle.label_scope.specs.declared.scope.Scope.{Scope}
use Rattle.label_scope.specs.declared.scope.Scope.TheVariants.{All, These}
use Rattle.label_scope.specs.declared.prop_scopes.PropScope.{PropScope}
use Rattle.label_scope.specs.declared.footprint.Footprint.{Footprint}
use Rattle.label_scope.specs.Examples.{persons, rooms, persons_and_rooms, at_most, exactly, forward_existing, meeting, person, step_to_an_edge, meetings_from_a_room, persons_without_meeting}
use Rattle.label_scope.specs.ScopedPaths.{is_person, is_room, doors, to_meets, to_room}
use Rattle.label_scope.specs.PartMembers.{person_to_person, person_waits, doors_persons_and_rooms}
use Rattle.label_scope.specs.Footprints.{nowhere, footprint}

-- a path between two scopes, and its footprint
pub record AskedPath : Type 0 where
  pub path : PathTerm
  pub first : Scope
  pub last : Scope
  pub asked : Footprint

abbrev pub AreAsked : List AskedPath → Type 0
AreAsked [] = Unit {0}
AreAsked (r ∷ rs) = (footprint r.path r.first r.last ≡ r.asked) × AreAsked rs

-- between the scopes the path asks this shape, this existence and these values
abbrev pub asks : PathTerm → Scope → Scope → Scope → Scope → List PropScope → AskedPath
asks p a b shape live values = record { path = p; first = a; last = b; asked = record { shape = shape; live = live; values = values } }

-- the shape alone
abbrev pub asks_shape : PathTerm → Scope → Scope → Scope → AskedPath
asks_shape p a b shape = asks p a b shape nowhere []

-- a property of the objects of a scope
abbrev pub of_objects : Word → Scope → PropScope
of_objects prop scope = record { prop = prop; scope = scope }

abbrev pub doors_and_rooms : Scope
doors_and_rooms = These (codes "Door" ∷ codes "Room" ∷ [])

abbrev pub persons_and_meetings : Scope
persons_and_meetings = These (codes "Person" ∷ codes "meets" ∷ [])

abbrev pub persons_rooms_and_meetings : Scope
persons_rooms_and_meetings = These (codes "Person" ∷ codes "Room" ∷ codes "meets" ∷ [])

abbrev pub persons_rooms_and_visits : Scope
persons_rooms_and_visits = These (codes "Person" ∷ codes "Room" ∷ codes "visits" ∷ [])

abbrev pub asked_by_axes : List AskedPath
asked_by_axes =
    asks_shape Forward persons rooms persons_and_rooms
    ∷ asks_shape Forward All rooms All
    ∷ asks_shape Backward rooms doors doors_and_rooms
    ∷ asks_shape Backward rooms All All
    ∷ asks_shape Next persons All persons
    ∷ asks_shape Next persons rooms persons
    ∷ asks_shape Previous All rooms rooms
    ∷ []

-- {risk = 'high'} and {mood = 'low'}
abbrev pub at_risk : TestTerm
at_risk = HasValue (codes "risk") (codes "high")

abbrev pub low_mood : TestTerm
low_mood = HasValue (codes "mood") (codes "low")

abbrev pub asked_by_tests : List AskedPath
asked_by_tests =
    asks_shape (OfTest IsNode) persons All persons
    ∷ asks_shape (OfTest IsEdge) All persons persons
    ∷ asks_shape (OfTest is_person) All All persons
    ∷ asks_shape (OfTest is_person) rooms persons rooms
    ∷ asks_shape (OfTest (IsBelow (pos 5))) All All All
    ∷ asks (OfTest DoesExist) persons All persons persons []
    ∷ asks (OfTest at_risk) rooms All rooms nowhere (of_objects (codes "risk") rooms ∷ [])
    ∷ asks (OfTest (Negation DoesExist)) persons All persons persons []
    ∷ asks (OfTest (Conjunction is_person DoesExist)) All All persons persons []
    ∷ asks (OfTest (Disjunction DoesExist is_person)) rooms All rooms rooms []
    ∷ asks (OfTest (Conjunction at_risk low_mood)) rooms All rooms nowhere (of_objects (codes "mood") rooms ∷ of_objects (codes "risk") rooms ∷ [])
    ∷ asks (OfTest (Disjunction at_risk (Negation at_risk))) rooms All rooms nowhere (of_objects (codes "risk") rooms ∷ [])
    ∷ asks_shape (OfTest (Condition to_meets)) persons All persons_and_meetings
    ∷ asks (OfTest (Negation (Condition (Sequence to_room (OfTest at_risk))))) persons All persons_and_rooms nowhere (of_objects (codes "risk") rooms ∷ [])
    ∷ asks (OfTest (Condition forward_existing)) persons All All All []
    ∷ []

-- a sequence, a choice or a repetition asks what its parts do, each between the scopes that its place leaves
abbrev pub asked_by_parts : List AskedPath
asked_by_parts =
    asks_shape (Sequence (OfTest is_person) to_room) All All persons_and_rooms
    ∷ asks (Sequence (OfTest DoesExist) to_room) persons All persons_and_rooms persons []
    ∷ asks (Sequence to_room (OfTest DoesExist)) persons All persons_and_rooms rooms []
    ∷ asks_shape (Choice (OfTest is_person) (OfTest is_room)) All All persons_and_rooms
    ∷ asks (Choice (OfTest (Conjunction is_person at_risk)) (OfTest (Conjunction is_room at_risk))) All All persons_and_rooms nowhere (of_objects (codes "risk") persons_and_rooms ∷ [])
    ∷ asks_shape (at_most 2 person_to_person) rooms doors doors_persons_and_rooms
    ∷ asks_shape (at_most 2 meeting) rooms persons persons_rooms_and_meetings
    ∷ asks_shape (exactly 2 person_waits) All All persons
    ∷ asks_shape (exactly 0 (OfTest is_person)) rooms All rooms
    ∷ asks (Repetition forward_existing 0 None) persons rooms All All []
    ∷ []

-- (label {risk = 'value'})
abbrev pub with_risk : Word → Word → PathTerm
with_risk label value = OfTest (Conjunction (Conjunction (Conjunction IsNode DoesExist) (HasLabel label)) (HasValue (codes "risk") value))

-- (x:Person {risk = 'high'})-/FWD/:visits/FWD/-(y:Room {risk = 'low'})
abbrev pub risky_visits : PathTerm
risky_visits =
    Sequence (Sequence (with_risk (codes "Person") (codes "high")) (Sequence (Sequence forward_existing (OfTest (HasLabel (codes "visits")))) forward_existing))
    (with_risk (codes "Room") (codes "low"))

-- (x:Person), (x:Person)-/N/F/-(y), (x:Room)-/(:Person/F/:meets/F/:Person)[0,2]/-(y:Person), (x:Person)-/{NOT ?(F/:meets + N)}/-(y)
-- and the one above: a meeting need not exist, and the risk of a visit isn't asked
abbrev pub asked_by_questions : List AskedPath
asked_by_questions =
    asks person All All persons persons []
    ∷ asks step_to_an_edge All All All All []
    ∷ asks meetings_from_a_room All All persons_rooms_and_meetings persons_and_rooms []
    ∷ asks persons_without_meeting All All persons_and_meetings persons []
    ∷ asks risky_visits All All persons_rooms_and_visits persons_rooms_and_visits (of_objects (codes "risk") persons_and_rooms ∷ [])
    ∷ []
