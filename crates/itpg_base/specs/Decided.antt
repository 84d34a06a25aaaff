-- A fact that holds or doesn't.
use Rattle.std.specs.Prelude.{◌⊎◌}

-- it is decided whether the fact holds
abbrev pub Decided : Type 0 → Type 0
Decided P = P ⊎ (¬ P)
