-- Paths with their scopes, written out by hand: each rule of the definitions has a path that only it decides.
use Rattle.std.specs.Prelude.{◌≡◌, List, [], ◌∷◌, Bool, true, false, Some, None, codes, pos}
use Rattle.path_ast.specs.Terms.{PathTerm, OfTest, Forward, Backward, Next, Previous, Sequence, Choice, Repetition, TestTerm, IsNode, IsEdge, HasLabel, HasValue, IsBelow, DoesExist, Condition, Conjunction, Disjunction, Negation}
use Rattle.path_ast.specs.Meaning.{keeps_object}
use Rattle.label_scope.specs.declared.scope.Scope.{Scope}
use Rattle.label_scope.specs.declared.scope.Scope.TheVariants.{All, These}
use Rattle.label_scope.specs.Scopes.{source_scope, target_scope}
use Rattle.label_scope.specs.Narrowing.{narrowed}
use Rattle.label_scope.specs.Examples.{persons, rooms, persons_and_rooms}

-- a path with its source scope, its target scope, and whether it keeps its object
pub record ScopedPath : Type 0 where
  pub path : PathTerm
  pub sources : Scope
  pub targets : Scope
  pub keeps : Bool

abbrev pub IsScoped : ScopedPath → Type 0
IsScoped r = (source_scope r.path ≡ r.sources) × (target_scope r.path ≡ r.targets) × (keeps_object r.path ≡ r.keeps)

abbrev pub AreScoped : List ScopedPath → Type 0
AreScoped [] = Unit {0}
AreScoped (r ∷ rs) = IsScoped r × AreScoped rs

abbrev pub scoped : PathTerm → Scope → Scope → Bool → ScopedPath
scoped p a b k = record { path = p; sources = a; targets = b; keeps = k }

-- the labels
abbrev pub is_person : TestTerm
is_person = HasLabel (codes "Person")

abbrev pub is_room : TestTerm
is_room = HasLabel (codes "Room")

abbrev pub is_meeting : TestTerm
is_meeting = HasLabel (codes "meets")

abbrev pub person_or_room : TestTerm
person_or_room = Disjunction is_person is_room

abbrev pub room_or_meeting : TestTerm
room_or_meeting = Disjunction is_room is_meeting

abbrev pub rooms_and_meetings : Scope
rooms_and_meetings = These (codes "Room" ∷ codes "meets" ∷ [])

abbrev pub doors : Scope
doors = These (codes "Door" ∷ [])

-- :Person/F, F/:Person, F/:Room and F/:meets
abbrev pub from_person : PathTerm
from_person = Sequence (OfTest is_person) Forward

abbrev pub to_person : PathTerm
to_person = Sequence Forward (OfTest is_person)

abbrev pub to_room : PathTerm
to_room = Sequence Forward (OfTest is_room)

abbrev pub to_meets : PathTerm
to_meets = Sequence Forward (OfTest is_meeting)

abbrev pub scoped_tests : List ScopedPath
scoped_tests =
    scoped (OfTest IsNode) All All true
    ∷ scoped (OfTest IsEdge) All All true
    ∷ scoped (OfTest is_person) persons persons true
    ∷ scoped (OfTest (HasValue (codes "risk") (codes "high"))) All All true
    ∷ scoped (OfTest (IsBelow (pos 5))) All All true
    ∷ scoped (OfTest DoesExist) All All true
    ∷ scoped (OfTest (Negation is_person)) All All true
    ∷ scoped (OfTest (Condition from_person)) persons persons true
    ∷ scoped (OfTest (Condition to_person)) All All true
    ∷ scoped (OfTest (Conjunction is_person IsNode)) persons persons true
    ∷ scoped (OfTest (Conjunction is_person is_room)) persons persons true
    ∷ scoped (OfTest (Conjunction person_or_room room_or_meeting)) persons_and_rooms persons_and_rooms true
    ∷ scoped (OfTest person_or_room) persons_and_rooms persons_and_rooms true
    ∷ scoped (OfTest (Disjunction is_person IsNode)) All All true
    ∷ scoped (OfTest (Disjunction is_room (Conjunction is_person IsNode))) persons_and_rooms persons_and_rooms true
    ∷ []

abbrev pub scoped_sequences : List ScopedPath
scoped_sequences =
    scoped Forward All All false
    ∷ scoped Backward All All false
    ∷ scoped Next All All true
    ∷ scoped Previous All All true
    ∷ scoped from_person persons All false
    ∷ scoped to_person All persons false
    ∷ scoped (Sequence Next (OfTest is_person)) persons persons true
    ∷ scoped (Sequence (OfTest is_person) Next) persons persons true
    ∷ scoped (Sequence Forward Next) All All false
    ∷ scoped (Sequence to_person Next) All persons false
    ∷ scoped (Sequence Previous from_person) persons All false
    ∷ scoped (Sequence (OfTest is_person) (OfTest is_room)) persons rooms true
    ∷ scoped (Sequence from_person to_room) persons rooms false
    ∷ scoped (Sequence to_person (Sequence Backward (OfTest is_room))) All rooms false
    ∷ scoped (Sequence (OfTest person_or_room) (Sequence (OfTest room_or_meeting) Forward)) persons_and_rooms All false
    ∷ scoped (Sequence (Sequence Forward (OfTest person_or_room)) (OfTest room_or_meeting)) All rooms_and_meetings false
    ∷ []

abbrev pub scoped_choices : List ScopedPath
scoped_choices =
    scoped (Choice (OfTest is_person) (OfTest is_room)) persons_and_rooms persons_and_rooms true
    ∷ scoped (Choice from_person (Sequence (OfTest is_room) Backward)) persons_and_rooms All false
    ∷ scoped (Choice to_meets to_room) All rooms_and_meetings false
    ∷ scoped (Choice from_person Next) All All false
    ∷ scoped (Choice (OfTest is_person) Forward) All All false
    ∷ scoped (Choice Next Previous) All All true
    ∷ scoped (Choice to_person to_person) All persons false
    ∷ []

abbrev pub scoped_repetitions : List ScopedPath
scoped_repetitions =
    scoped (Repetition (OfTest is_person) 0 (Some 3)) All All true
    ∷ scoped (Repetition (OfTest is_person) 1 (Some 3)) persons persons true
    ∷ scoped (Repetition from_person 1 None) persons All false
    ∷ scoped (Repetition (Sequence from_person (OfTest is_room)) 2 (Some 2)) persons rooms false
    ∷ scoped (Repetition to_person 0 None) All All false
    ∷ scoped (Sequence (Repetition (OfTest is_person) 0 (Some 1)) (OfTest is_room)) rooms rooms true
    ∷ scoped (Choice (Repetition Next 0 None) (OfTest is_person)) All All true
    ∷ []

-- a path between two scopes, and what is left of both
pub record NarrowedPath : Type 0 where
  pub path : PathTerm
  pub first : Scope
  pub last : Scope
  pub sources : Scope
  pub targets : Scope

abbrev pub AreNarrowed : List NarrowedPath → Type 0
AreNarrowed [] = Unit {0}
AreNarrowed (r ∷ rs) = ((narrowed r.path r.first r.last).sources ≡ r.sources) × ((narrowed r.path r.first r.last).targets ≡ r.targets) × AreNarrowed rs

abbrev pub leaves : PathTerm → Scope → Scope → Scope → Scope → NarrowedPath
leaves p a b c d = record { path = p; first = a; last = b; sources = c; targets = d }

abbrev pub narrowed_paths : List NarrowedPath
narrowed_paths =
    leaves Next persons All persons persons
    ∷ leaves Next All rooms rooms rooms
    ∷ leaves Next persons rooms persons rooms
    ∷ leaves Forward persons rooms persons rooms
    ∷ leaves from_person All rooms persons rooms
    ∷ leaves from_person persons_and_rooms All persons_and_rooms All
    ∷ leaves to_room persons persons_and_rooms persons persons_and_rooms
    ∷ leaves (OfTest is_person) All persons_and_rooms persons persons_and_rooms
    ∷ leaves (OfTest IsNode) persons_and_rooms rooms_and_meetings persons_and_rooms rooms_and_meetings
    ∷ leaves (Choice (OfTest is_person) (OfTest is_room)) rooms_and_meetings All rooms_and_meetings persons_and_rooms
    ∷ leaves (Repetition Forward 0 None) persons rooms persons rooms
    ∷ []
