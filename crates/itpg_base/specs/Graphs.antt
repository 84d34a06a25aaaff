-- A property graph over time as plain data: the list of all objects ever declared.
use Rattle.std.specs.Prelude.{◌≡◌, ◌≢◌, ℕ, zero, suc, ◌≤◌, ℤ, pos, ◌+ℤ◌, ◌<ℤ◌, List, [], ◌∷◌, length, Option, Some, None, slice_get, unwrap_or, option_map, IsSomeAnd, IfSome, IsTrue, Bool, ◌&&◌, nat_eq, ◌⊎◌}
use Rattle.std.specs.List.{position_from}
use Rattle.std.specs.Cmp.Lexicographic.{pointwise}
use Rattle.itpg_base.specs.Spans.{Span, IsSpan, IsMoment, Within, Covers, IsCoalesced}
use Rattle.itpg_base.specs.Words.{Word, IsRising, IsLabels}
use Rattle.itpg_base.specs.declared.limits.TheConstants.{MAX_SPANS, MAX_PROPERTIES, MAX_OBJECTS}

-- a value over a span
pub record Valued : Type 0 where
  pub span : Span
  pub value : Word

-- a property and the values that it has over time
pub record Property : Type 0 where
  pub name : Word
  pub runs : List Valued

-- the two ends of an edge, by their numbers
pub record Ends : Type 0 where
  pub source : ℕ
  pub target : ℕ

-- an object: an edge if it has ends, and else a node. It stands until it is dropped
pub record Object : Type 0 where
  pub name : Word
  pub labels : List Word
  pub ends : Option Ends
  pub standing : Bool
  pub live : List Span
  pub properties : List Property

-- the name that a graph was begun with, and its horizon, which may have been widened since
pub record Begun : Type 0 where
  pub name : Word
  pub horizon : Span

-- a graph; an object's number is its place in the list, from 0
pub record Graph : Type 0 where
  pub begun : Option Begun
  pub objects : List Object

-- the object of this number has the property that is asked for
abbrev pub ObjectIs : Graph → ℕ → (Object → Type 0) → Type 0
ObjectIs g o P = IsSomeAnd (slice_get g.objects o) P

-- the object was declared and not dropped
abbrev pub Stands : Graph → ℕ → Type 0
Stands g o = ObjectIs g o (λ x. IsTrue x.standing)

-- a standing object has this number and this name
abbrev pub Named : Graph → ℕ → Word → Type 0
Named g o name = ObjectIs g o (λ x. IsTrue x.standing × (x.name ≡ name))

-- the object stands and has the name
abbrev pub has_name : Word → Object → Bool
has_name name x = x.standing && pointwise nat_eq x.name name

-- the number of the standing object with this name, if there is one
abbrev pub numbered : Graph → Word → Option ℕ
numbered g name = position_from (has_name name) 0 g.objects

-- the name under which the number was declared
abbrev pub name_at : Graph → ℕ → Word
name_at g o = unwrap_or (option_map (λ x. x.name) (slice_get g.objects o)) []

-- the list with the element at a place changed
abbrev pub changed_at : {X : Type 0} → List X → ℕ → (X → X) → List X
changed_at [] i f = []
changed_at (x ∷ xs) zero f = f x ∷ xs
changed_at (x ∷ xs) (suc i) f = x ∷ changed_at xs i f

-- the object exists at the moment
abbrev pub Exists : Graph → ℕ → ℤ → Type 0
Exists g o t = ObjectIs g o (λ x. Covers x.live t)

-- some run has this value at the moment
abbrev pub RunsHave : List Valued → ℤ → Word → Type 0
RunsHave [] t value = ⊥
RunsHave (r ∷ rest) t value = (Within t r.span × (r.value ≡ value)) ⊎ RunsHave rest t value

-- the property of this name has this value at the moment
abbrev pub PropertiesHave : List Property → Word → ℤ → Word → Type 0
PropertiesHave [] name t value = ⊥
PropertiesHave (p ∷ rest) name t value = ((p.name ≡ name) × RunsHave p.runs t value) ⊎ PropertiesHave rest name t value

-- the object has this value of the property at the moment
abbrev pub Val : Graph → ℕ → Word → ℤ → Word → Type 0
Val g o name t value = ObjectIs g o (λ x. PropertiesHave x.properties name t value)

-- the horizon of the graph has the moment
abbrev pub InHorizon : Graph → ℤ → Type 0
InHorizon g t = IsSomeAnd g.begun (λ b. Within t b.horizon)

-- a standing object together with a moment of the horizon
pub record IsPoint (g : Graph) (o : ℕ) (t : ℤ) : Type 0 where
  pub stands : Stands g o
  pub within : InHorizon g t

-- between a run and the next of the list at least one moment is missing, or the value changes
abbrev pub RunsApart : Valued → List Valued → Type 0
RunsApart r [] = Unit {0}
RunsApart r (q ∷ rest) = (r.span.to <ℤ q.span.from) × (r.value ≡ q.value → (r.span.to +ℤ pos 1) <ℤ q.span.from)

-- the runs rise, and two that touch have different values
abbrev pub AreRunsOfValues : List Valued → Type 0
AreRunsOfValues [] = Unit {0}
AreRunsOfValues (r ∷ rest) = IsSpan r.span × RunsApart r rest × AreRunsOfValues rest

-- one property of an object: it has a value at some moment, and no more runs than a family may have
pub record IsFamily (p : Property) : Type 0 where
  pub some : p.runs ≢ []
  pub few : length p.runs ≤ MAX_SPANS
  pub runs : AreRunsOfValues p.runs

abbrev pub AreFamilies : List Property → Type 0
AreFamilies [] = Unit {0}
AreFamilies (p ∷ rest) = IsFamily p × AreFamilies rest

abbrev pub property_names : List Property → List Word
property_names [] = []
property_names (p ∷ rest) = p.name ∷ property_names rest

-- what an object keeps: its lists are coalesced, and no capacity is passed
pub record IsObject (x : Object) : Type 0 where
  pub labels : IsLabels x.labels
  pub live : IsCoalesced x.live
  pub few_spans : length x.live ≤ MAX_SPANS
  pub properties : AreFamilies x.properties
  pub differ : IsRising (property_names x.properties)
  pub few_properties : length x.properties ≤ MAX_PROPERTIES

-- one of the ends of the standing edge e is a
abbrev pub HasEnd : Graph → ℕ → ℕ → Type 0
HasEnd g e a = ObjectIs g e (λ x. IsTrue x.standing × IsSomeAnd x.ends (λ n. (n.source ≡ a) ⊎ (n.target ≡ a)))

-- what holds of the name and the horizon of a graph
pub record IsBegun (b : Begun) : Type 0 where
  pub span : IsSpan b.horizon
  pub from : IsMoment b.horizon.from
  pub to : IsMoment b.horizon.to

-- what each graph keeps
pub record Good (g : Graph) : Type 0 where
  -- an edge exists only where both its ends do
  pub ends_exist : (e a : ℕ) (t : ℤ) → HasEnd g e a → Exists g e t → Exists g a t
  -- a property has a value only where its object exists
  pub values_exist : (o : ℕ) (name : Word) (t : ℤ) (value : Word) → Val g o name t value → Exists g o t
  -- the ends of a standing edge are standing nodes
  pub ends_stand : (e a : ℕ) → HasEnd g e a → ObjectIs g a (λ x. IsTrue x.standing × (x.ends ≡ None))
  -- standing objects have different names
  pub names_differ : (o p : ℕ) (name : Word) → Named g o name → Named g p name → o ≡ p
  -- nothing exists outside the horizon, and what was dropped exists nowhere
  pub inside : (o : ℕ) (t : ℤ) → Exists g o t → IsPoint g o t
  -- lists are coalesced and capacities kept
  pub objects : (o : ℕ) (x : Object) → slice_get g.objects o ≡ Some x → IsObject x
  pub few : length g.objects ≤ MAX_OBJECTS
  -- the horizon is a span of moments, and before a graph is begun it has no object
  pub begun : IfSome g.begun IsBegun
  pub unbegun : g.begun ≡ None → g.objects ≡ []
