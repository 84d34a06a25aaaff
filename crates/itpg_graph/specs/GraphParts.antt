-- A part of a graph: some of its objects, as the graph in which no other object stands.
use Rattle.std.specs.Prelude.{◌≡◌, ◌⊎◌, ◌≤◌, ◌<◌, ◌||◌, ℕ, suc, List, [], ◌∷◌, length, Option, Some, None, Bool, false, cond, nat_eq, option_map, slice_get}
use Rattle.itpg_base.specs.Graphs.{Graph, Good, Object, Stands, HasEnd}
use Rattle.itpg_base.specs.declared.object_number.ObjNo.{ObjNo}
use Rattle.itpg_graph.specs.Changes.{dropped}
use Rattle.itpg_graph.specs.Edges.{HasNumber, AreRising}

-- the graph with the objects of the set as they were: no other stands, exists or has a value
pub record IsOnly (g : Graph) (S : ℕ → Type 0) (new : Graph) : Type 0 where
  pub begun : new.begun ≡ g.begun
  pub count : length new.objects ≡ length g.objects
  pub each : (o : ℕ) → (S o × (slice_get new.objects o ≡ slice_get g.objects o)) ⊎ ((¬ S o) × (slice_get new.objects o ≡ option_map dropped (slice_get g.objects o)))

-- the list has the number
abbrev pub has_number : List ObjNo → ℕ → Bool
has_number [] o = false
has_number (x ∷ rest) o = nat_eq x.0 o || has_number rest o

-- the objects from a number on, each dropped but those that are kept
abbrev pub kept_from : (ℕ → Bool) → ℕ → List Object → List Object
kept_from keep i [] = []
kept_from keep i (x ∷ rest) = cond (keep i) x (dropped x) ∷ kept_from keep (suc i) rest

-- the graph in which no object stands but those of the list
abbrev pub only_of : Graph → List ObjNo → Graph
only_of g objects = record g { objects = kept_from (has_number objects) 0 g.objects }

-- the set has both ends of each of its edges
abbrev pub HoldsEnds : Graph → (ℕ → Type 0) → Type 0
HoldsEnds g S = (e a : ℕ) → S e → HasEnd g e a → S a

-- the graph is good; the objects rise and stand, and hold the ends of their edges
pub record ArePart (g : Graph) (objects : List ObjNo) : Type 0 where
  pub good : Good g
  pub rising : AreRising objects
  pub stand : (o : ℕ) → HasNumber objects o → Stands g o
  pub ends : HoldsEnds g (HasNumber objects)

-- the graph itself, or the part of it that is listed
abbrev pub part_of : Graph → Option (List ObjNo) → Graph
part_of g None = g
part_of g (Some objects) = only_of g objects

-- none of the objects from the one number on and below the other stands
abbrev pub NoneStandsBetween : Graph → ℕ → ℕ → Type 0
NoneStandsBetween g from to = (k : ℕ) → from ≤ k → k < to → ¬ Stands g k

-- the object is the first from the number on that stands
pub record IsNextStanding (g : Graph) (from o : ℕ) : Type 0 where
  pub stands : Stands g o
  pub behind : from ≤ o
  pub first : NoneStandsBetween g from o

-- no object from the number on stands
abbrev pub NoneStands : Graph → ℕ → Type 0
NoneStands g from = (k : ℕ) → from ≤ k → ¬ Stands g k

-- the number is the first of the list from this one on
pub record IsNextNumber (numbers : List ObjNo) (from n : ℕ) : Type 0 where
  pub has : HasNumber numbers n
  pub behind : from ≤ n
  pub first : (k : ℕ) → HasNumber numbers k → from ≤ k → n ≤ k

-- the list has no number from this one on
abbrev pub NoNumber : List ObjNo → ℕ → Type 0
NoNumber numbers from = (k : ℕ) → HasNumber numbers k → k < from

-- the numbers rise, and of those that stand in the graph the list has exactly the numbers of the set
pub record StandingAreNumbers (g : Graph) (S : ℕ → Type 0) (numbers : List ObjNo) : Type 0 where
  pub whole : (e : ℕ) → S e → HasNumber numbers e
  pub only : (e : ℕ) → HasNumber numbers e → Stands g e → S e
  pub rising : AreRising numbers
