-- Sets of moments as lists of spans, and values over time as lists of runs.
use Rattle.std.specs.Prelude.{◌≡◌, ℤ, ◌≤ℤ◌, List, ◌⊎◌, Option, Some, Bool, IsTrue}
use Rattle.itpg_base.specs.Spans.{Span, Within, Covers, IsCoalesced}
use Rattle.itpg_base.specs.Words.{Word}
use Rattle.itpg_base.specs.Graphs.{Valued, RunsHave, AreRunsOfValues}

-- the list is coalesced, and has exactly the moments of the set
pub record AreRuns (S : ℤ → Type 0) (spans : List Span) : Type 0 where
  pub whole : (t : ℤ) → S t → Covers spans t
  pub only : (t : ℤ) → Covers spans t → S t
  pub coalesced : IsCoalesced spans

-- the list is coalesced, and has exactly these values at these moments
pub record AreRunsOf (H : ℤ → Word → Type 0) (runs : List Valued) : Type 0 where
  pub whole : (t : ℤ) (value : Word) → H t value → RunsHave runs t value
  pub only : (t : ℤ) (value : Word) → RunsHave runs t value → H t value
  pub coalesced : AreRunsOfValues runs

-- the test holds only between the two moments
abbrev pub HoldsBetween : ℤ → ℤ → (ℤ → Bool) → Type 0
HoldsBetween low high test = (t : ℤ) → IsTrue (test t) → (low ≤ℤ t) × (t ≤ℤ high)

-- what has a value at a moment alone has one between the two moments
abbrev pub LiesBetween : ℤ → ℤ → (ℤ → Option Word) → Type 0
LiesBetween low high value_at = (t : ℤ) (value : Word) → value_at t ≡ Some value → (low ≤ℤ t) × (t ≤ℤ high)

-- the new value at the moments of the span, and elsewhere what the runs have
abbrev pub HasPut : List Valued → Span → Word → ℤ → Word → Type 0
HasPut runs s new t value = (Within t s × (value ≡ new)) ⊎ (RunsHave runs t value × (¬ Within t s))

-- nothing at the moments of the span, and elsewhere what the runs have
abbrev pub HasCleared : List Valued → Span → ℤ → Word → Type 0
HasCleared runs s t value = RunsHave runs t value × (¬ Within t s)
