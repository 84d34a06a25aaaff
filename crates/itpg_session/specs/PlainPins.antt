-- The pins of the plain machine.
use Rattle.std.specs.Prelude.{◌≡◌, ◌≢◌, List, map}
use Rattle.itpg_base.specs.Words.{Word}
use Rattle.itpg_base.specs.Graphs.{Graph}
use Rattle.itpg_base.specs.Lists.{Among}
use Rattle.itpg_pins.specs.Pins.{Held}
use Rattle.itpg_session.specs.Named.{without_named}

-- a pin: its name, and the graph as it stood when the pin was opened
pub record Pin : Type 0 where
  pub name : Word
  pub graph : Graph

-- what the plain machine has of a pin that is held: nothing of its table of plans
abbrev pub plain_pin : Held → Pin
plain_pin p = record { name = p.name; graph = p.graph }

abbrev pub plain_pins : List Held → List Pin
plain_pins pins = map plain_pin pins

-- a pin that is opened under the name
abbrev pub new_pin : Word → Graph → Pin
new_pin name g = record { name = name; graph = g }

-- a pin of this name stands
abbrev pub IsPinned : List Pin → Word → Type 0
IsPinned pins name = (p : Pin) × Among pins p × (p.name ≡ name)

-- the two have different names
abbrev pub PinsDiffer : Pin → Pin → Type 0
PinsDiffer p q = p.name ≢ q.name

-- the pins but the one of this name, in their order
abbrev pub without_pin : Word → List Pin → List Pin
without_pin name pins = without_named (λ p. p.name) name pins
