-- The properties of an object as a list, and what a change would leave of its families.
use Rattle.std.specs.Prelude.{◌≡◌, ◌≢◌, ℕ, ◌<◌, ◌≤◌, ℤ, List, [], ◌∷◌, length, ◌⊎◌}
use Rattle.itpg_base.specs.Words.{Word, IsRising}
use Rattle.itpg_base.specs.Spans.{Span, Within}
use Rattle.itpg_base.specs.Graphs.{Graph, Property, Valued, ObjectIs, Exists, Val, PropertiesHave, AreRunsOfValues, property_names}
use Rattle.itpg_base.specs.declared.limits.TheConstants.{MAX_SPANS, MAX_PROPERTIES}
use Rattle.interval_set.specs.Runs.{AreRuns, AreRunsOf}

-- a property has a value at some moment, and its runs are coalesced
pub record IsValued (p : Property) : Type 0 where
  pub some : p.runs ≢ []
  pub runs : AreRunsOfValues p.runs

abbrev pub AreValued : List Property → Type 0
AreValued [] = Unit {0}
AreValued (p ∷ rest) = IsValued p × AreValued rest

-- the names rise, and each property has a value at some moment
pub record IsOrderly (properties : List Property) : Type 0 where
  pub rising : IsRising (property_names properties)
  pub valued : AreValued properties

-- the list is orderly, and has exactly these values of these properties at these moments
pub record AreProperties (H : Word → ℤ → Word → Type 0) (properties : List Property) : Type 0 where
  pub whole : (name : Word) (t : ℤ) (value : Word) → H name t value → PropertiesHave properties name t value
  pub only : (name : Word) (t : ℤ) (value : Word) → PropertiesHave properties name t value → H name t value
  pub orderly : IsOrderly properties

-- the object exists at the moment, which the span doesn't have
abbrev pub ExistsOutside : Graph → ℕ → Span → ℤ → Type 0
ExistsOutside g o s t = Exists g o t × (¬ Within t s)

-- the object has the value of the property at the moment, which the span doesn't have
abbrev pub ValOutside : Graph → ℕ → Span → Word → ℤ → Word → Type 0
ValOutside g o s name t value = Val g o name t value × (¬ Within t s)

-- of one property the new value at the moments of the span, and elsewhere what the object has of it
abbrev pub ValPut : Graph → ℕ → Span → Word → Word → ℤ → Word → Type 0
ValPut g o s new name t value = (Within t s × (value ≡ new)) ⊎ ValOutside g o s name t value

-- the object's existence, or a property of it, would have n spans after its life in the span ended
abbrev pub HasCutFamily : Graph → ℕ → Span → ℕ → Type 0
HasCutFamily g o s n = ((live : List Span) × AreRuns (ExistsOutside g o s) live × (length live ≡ n)) ⊎ ((name : Word) × (runs : List Valued) × AreRunsOf (ValOutside g o s name) runs × (length runs ≡ n))

-- no family has more spans than it may have after the object's life in the span ended
abbrev pub FitCut : Graph → ℕ → Span → Type 0
FitCut g o s = (n : ℕ) → HasCutFamily g o s n → n ≤ MAX_SPANS

-- the property has no more runs than it may have after it got the value in the span
abbrev pub FitPut : Graph → ℕ → Word → Word → Span → Type 0
FitPut g o name value s = (runs : List Valued) → AreRunsOf (ValPut g o s value name) runs → length runs ≤ MAX_SPANS

-- the property has no more runs than it may have after its values in the span were taken away
abbrev pub FitClear : Graph → ℕ → Word → Span → Type 0
FitClear g o name s = (runs : List Valued) → AreRunsOf (ValOutside g o s name) runs → length runs ≤ MAX_SPANS

-- the object has a value of the property at some moment
abbrev pub HasProperty : Graph → ℕ → Word → Type 0
HasProperty g o name = (t : ℤ) × (value : Word) × Val g o name t value

-- the object has the property already, or fewer properties than it may have
abbrev pub HasPlace : Graph → ℕ → Word → Type 0
HasPlace g o name = HasProperty g o name ⊎ ObjectIs g o (λ x. length x.properties < MAX_PROPERTIES)
