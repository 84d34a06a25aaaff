-- What each change leaves of one object.
use Rattle.std.specs.Prelude.{◌≡◌, List, ◌⊎◌}
use Rattle.itpg_base.specs.Words.{Word}
use Rattle.itpg_base.specs.Spans.{Span, Within, Covers}
use Rattle.itpg_base.specs.Graphs.{Object, Property, PropertiesHave}
use Rattle.interval_set.specs.Runs.{AreRuns}
use Rattle.itpg_graph.specs.Families.{AreProperties}
use Rattle.itpg_graph.specs.Tables.{HasLess, HasMore}

-- the object exists at the moments of the span too
pub record ObjectJoins (x : Object) (s : Span) (new : Object) : Type 0 where
  pub live : List Span
  pub runs : AreRuns (λ t. Covers x.live t ⊎ Within t s) live
  pub is : new ≡ record x { live = live }

-- it exists at no moment of the span and has no value there
pub record ObjectCuts (x : Object) (s : Span) (new : Object) : Type 0 where
  pub live : List Span
  pub properties : List Property
  pub runs : AreRuns (λ t. Covers x.live t × (¬ Within t s)) live
  pub values : AreProperties (λ name t value. PropertiesHave x.properties name t value × (¬ Within t s)) properties
  pub is : new ≡ record x { live = live; properties = properties }

-- a property has the value at each moment of the span
pub record ObjectPuts (x : Object) (name value : Word) (s : Span) (new : Object) : Type 0 where
  pub properties : List Property
  pub values : AreProperties (HasMore x.properties name value s) properties
  pub is : new ≡ record x { properties = properties }

-- a property has no value in the span
pub record ObjectClears (x : Object) (name : Word) (s : Span) (new : Object) : Type 0 where
  pub properties : List Property
  pub values : AreProperties (HasLess x.properties name s) properties
  pub is : new ≡ record x { properties = properties }
