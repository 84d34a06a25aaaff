-- What the changes of a list of properties leave, and its widest family.
use Rattle.std.specs.Prelude.{◌≡◌, ℕ, ◌<◌, ◌≤◌, ℤ, List, [], ◌∷◌, length, take, drop, slice_get, IsSomeAnd, ◌⊎◌}
use Rattle.itpg_base.specs.Words.{Word, IsBefore}
use Rattle.itpg_base.specs.Spans.{Span, Within}
use Rattle.itpg_base.specs.Graphs.{Property, Valued, PropertiesHave}
use Rattle.interval_set.specs.Runs.{AreRunsOf}

-- each name of the list comes before this one
abbrev pub AreBefore : Word → List Property → Type 0
AreBefore name [] = Unit {0}
AreBefore name (p ∷ rest) = IsBefore p.name name × AreBefore name rest

-- each name of the list comes after this one
abbrev pub AreAfter : Word → List Property → Type 0
AreAfter name [] = Unit {0}
AreAfter name (p ∷ rest) = IsBefore name p.name × AreAfter name rest

-- the property at this place of the list has the name
pub record IsPlace (properties : List Property) (name : Word) (place : ℕ) : Type 0 where
  pub within : place < length properties
  pub named : IsSomeAnd (slice_get properties place) (λ p. p.name ≡ name)

-- no property of the list has the name, which would come at this place
pub record IsGap (properties : List Property) (name : Word) (place : ℕ) : Type 0 where
  pub within : place ≤ length properties
  pub before : AreBefore name (take place properties)
  pub after : AreAfter name (drop place properties)

-- the values without those of one property in the span
abbrev pub HasLess : List Property → Word → Span → Word → ℤ → Word → Type 0
HasLess properties cleared s name t value = PropertiesHave properties name t value × (¬ ((name ≡ cleared) × Within t s))

-- the same, with a value of that property at each moment of the span
abbrev pub HasMore : List Property → Word → Word → Span → Word → ℤ → Word → Type 0
HasMore properties changed new s name t value = ((name ≡ changed) × Within t s × (value ≡ new)) ⊎ HasLess properties changed s name t value

-- without its values in the span a property has n runs
abbrev pub HasRuns : List Property → Span → Word → ℕ → Type 0
HasRuns properties s name n = (runs : List Valued) × AreRunsOf (λ t value. PropertiesHave properties name t value × (¬ Within t s)) runs × (length runs ≡ n)

-- n is the greatest number of runs that a property has without its values in the span
pub record IsWidest (properties : List Property) (s : Span) (n : ℕ) : Type 0 where
  pub some : (name : Word) × HasRuns properties s name n
  pub most : (name : Word) (m : ℕ) → HasRuns properties s name m → m ≤ n
