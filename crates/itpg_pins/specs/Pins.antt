-- Pins: graphs as they stood, each under a name, with a table of plans of its own.
use Rattle.std.specs.Prelude.{◌≡◌, ◌≢◌, ℕ, ◌≤◌, List, [], ◌∷◌, length, nat_eq, if◌then◌else◌, slice_get, IsSomeAnd}
use Rattle.std.specs.Cmp.Lexicographic.{pointwise}
use Rattle.itpg_base.specs.Words.{Word}
use Rattle.itpg_base.specs.Graphs.{Graph, changed_at}
use Rattle.itpg_base.specs.Lists.{Among, Ordered}
use Rattle.plan_cache.specs.Nodes.{Table}
use Rattle.plan_cache.specs.RightRows.{IsTableRight}

-- a pin: its name, the graph as it stood, and its table of plans
pub record Held : Type 0 where
  pub name : Word
  pub graph : Graph
  pub table : Table

-- the limit of rows, and the pins that stand, in order of declaration
pub record Pinned : Type 0 where
  pub limit : ℕ
  pub pins : List Held

abbrev pub held : Word → Graph → Table → Held
held name graph table = record { name = name; graph = graph; table = table }

-- how many pins may stand
abbrev pub most_pins : ℕ
most_pins = 8

-- a pin of this name stands
abbrev pub IsHeld : List Held → Word → Type 0
IsHeld pins name = (p : Held) × Among pins p × (p.name ≡ name)

-- no other place has a pin of this name
abbrev pub IsOnlyPlace : List Held → Word → ℕ → Type 0
IsOnlyPlace pins name place = (other : ℕ) → IsSomeAnd (slice_get pins other) (λ p. p.name ≡ name) → other ≡ place

-- the two have different names
abbrev pub NamesDiffer : Held → Held → Type 0
NamesDiffer p q = p.name ≢ q.name

-- the pins but the one of this name, in their order
abbrev pub without : Word → List Held → List Held
without name [] = []
without name (p ∷ rest) = if pointwise nat_eq p.name name then without name rest else p ∷ without name rest

-- the pins, of which the one at a place has this table now
abbrev pub retabled : ℕ → Table → List Held → List Held
retabled place table pins = changed_at pins place (λ p. record p { table = table })

-- few pins, of different names, each with a table that is right on its graph
pub record AreSound (limit : ℕ) (pins : List Held) : Type 0 where
  pub few : length pins ≤ most_pins
  pub differ : Ordered NamesDiffer pins
  pub right : (p : Held) → Among pins p → IsTableRight p.graph limit p.table
