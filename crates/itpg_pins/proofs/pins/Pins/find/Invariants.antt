use Rattle.std.proofs.Common.{◌≡◌, take}
use Rattle.itpg_base.specs.Lists.{Among}
use Rattle.itpg_pins.specs.Pins.{Held}
use Rattle.itpg_pins.proofs.pins.Pins.find.Given as goal

abbrev pub invariant-loop-place : goal.invariant-loop-place
invariant-loop-place l = (k : Held) → Among (take l.place l.pin-items) k → k.name ≡ l.name → ⊥
