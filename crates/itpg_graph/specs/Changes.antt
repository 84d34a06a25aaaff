-- What each writer changes.
use Rattle.std.specs.Prelude.{◌≡◌, ℕ, ◌≤◌, ℤ, List, [], ◌∷◌, ◌++◌, length, Option, Some, None, option_map, true, false, ◌⊎◌}
use Rattle.itpg_base.specs.Words.{Word}
use Rattle.itpg_base.specs.Spans.{Span, Within}
use Rattle.itpg_base.specs.Graphs.{Graph, Begun, Object, Ends, Property, Exists, Val, changed_at}
use Rattle.itpg_base.specs.declared.limits.TheConstants.{MAX_SPANS}
use Rattle.interval_set.specs.Runs.{AreRuns}
use Rattle.itpg_graph.specs.Families.{AreProperties, ExistsOutside, ValOutside}

-- the graph with this name and horizon, begun
abbrev pub begun_as : Graph → Word → Span → Graph
begun_as g name horizon = record g { begun = Some (record { name = name; horizon = horizon }) }

-- the graph with this horizon, if it is begun, and the same name and objects
abbrev pub widened : Graph → Span → Graph
widened g horizon = record g { begun = option_map (λ (b : Begun). record b { horizon = horizon }) g.begun }

-- a new object stands and exists at no moment; it is an edge if it has ends, and else a node
abbrev pub new_object : Word → List Word → Option Ends → Object
new_object name labels ends = record { name = name; labels = labels; ends = ends; standing = true; live = []; properties = [] }

abbrev pub new_node : Word → List Word → Object
new_node name labels = new_object name labels None

-- the graph with one more node, which has the next number
abbrev pub with_node : Graph → Word → List Word → Graph
with_node g name labels = record g { objects = g.objects ++ new_node name labels ∷ [] }

abbrev pub new_edge : Word → List Word → ℕ → ℕ → Object
new_edge name labels source target = new_object name labels (Some (record { source = source; target = target }))

-- the graph with one more edge, which has the next number
abbrev pub with_edge : Graph → Word → List Word → ℕ → ℕ → Graph
with_edge g name labels source target = record g { objects = g.objects ++ new_edge name labels source target ∷ [] }

-- the graph in which the object of this number is changed so
abbrev pub with_object : Graph → ℕ → (Object → Object) → Graph
with_object g o f = record g { objects = changed_at g.objects o f }

-- the graph in which the object of this number exists at these moments, and that is the same otherwise
abbrev pub with_live : Graph → ℕ → List Span → Graph
with_live g o live = with_object g o (λ x. record x { live = live })

-- the object exists at the moments of the span too, and nothing else changed
pub record JoinsLive (g : Graph) (o : ℕ) (s : Span) (new : Graph) : Type 0 where
  pub live : List Span
  pub runs : AreRuns (λ t. Exists g o t ⊎ Within t s) live
  pub is : new ≡ with_live g o live

-- a family may have these moments: they are no more spans than it may have
abbrev pub FitFamily : Graph → ℕ → Span → Type 0
FitFamily g o s = (live : List Span) → AreRuns (λ t. Exists g o t ⊎ Within t s) live → length live ≤ MAX_SPANS

-- the object exists at no moment of the span and has no value there, and nothing else changed
pub record CutsLive (g : Graph) (o : ℕ) (s : Span) (new : Graph) : Type 0 where
  pub live : List Span
  pub properties : List Property
  pub runs : AreRuns (ExistsOutside g o s) live
  pub values : AreProperties (ValOutside g o s) properties
  pub is : new ≡ with_object g o (λ x. record x { live = live; properties = properties })

-- the graph in which the object of this number has these properties, and that is the same otherwise
abbrev pub with_properties : Graph → ℕ → List Property → Graph
with_properties g o properties = with_object g o (λ x. record x { properties = properties })

-- the values that are left where one property has none in the span
abbrev pub ValCleared : Graph → ℕ → Span → Word → Word → ℤ → Word → Type 0
ValCleared g o s cleared name t value = Val g o name t value × (¬ ((name ≡ cleared) × Within t s))

-- the same, with a value of that property at each moment of the span
abbrev pub ValChanged : Graph → ℕ → Span → Word → Word → Word → ℤ → Word → Type 0
ValChanged g o s changed new name t value = ((name ≡ changed) × Within t s × (value ≡ new)) ⊎ ValCleared g o s changed name t value

-- the property has the value at each moment of the span, and nothing else changed
pub record PutsValue (g : Graph) (o : ℕ) (name value : Word) (s : Span) (new : Graph) : Type 0 where
  pub properties : List Property
  pub values : AreProperties (ValChanged g o s name value) properties
  pub is : new ≡ with_properties g o properties

-- the property has no value in the span, and nothing else changed
pub record ClearsValue (g : Graph) (o : ℕ) (name : Word) (s : Span) (new : Graph) : Type 0 where
  pub properties : List Property
  pub values : AreProperties (ValCleared g o s name) properties
  pub is : new ≡ with_properties g o properties

-- an object that no longer stands has no moments and no values; it keeps its name, its labels and its ends
abbrev pub dropped : Object → Object
dropped x = record x { standing = false; live = []; properties = [] }

-- the graph in which the object of this number no longer stands
abbrev pub without : Graph → ℕ → Graph
without g o = with_object g o dropped
