-- What can be reached from an object along edges.
use Rattle.std.specs.Prelude.{ℕ, List, length, Option, ◌⊎◌}
use Rattle.itpg_base.specs.Graphs.{Graph, Stands, HasEnd}
use Rattle.itpg_base.specs.Walks.{IsWalk}
use Rattle.source_rows.specs.Steps.{IsUpTo}

-- a step from a to b: from a node to a standing edge of which it is an end, or from a standing edge to one of its ends
abbrev pub IsStep : Graph → ℕ → ℕ → Type 0
IsStep g a b = HasEnd g b a ⊎ HasEnd g a b

-- a walk of at most so many steps leads from o to a
abbrev pub IsReached : Graph → ℕ → Option ℕ → ℕ → Type 0
IsReached g o bound a = (zs : List ℕ) × IsUpTo bound (length zs) × IsWalk (IsStep g) o zs a

-- a standing object to which such a walk leads, or an end of an edge among these
abbrev pub Reach : Graph → ℕ → Option ℕ → ℕ → Type 0
Reach g o bound a = Stands g a × (IsReached g o bound a ⊎ ((e : ℕ) × IsReached g o bound e × HasEnd g e a))
