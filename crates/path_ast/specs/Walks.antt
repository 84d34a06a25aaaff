-- A relation repeated along walks, and its powers.
use Rattle.std.specs.Prelude.{◌≡◌, ℕ, zero, suc, ◌≤◌, List, length, Option, IfSome}
use Rattle.itpg_base.specs.Graphs.{Graph}
use Rattle.itpg_base.specs.Points.{Point, Relation, IsAt}
use Rattle.itpg_base.specs.Walks.{IsWalk}

-- the number is at least n and, if there is an m, at most m
abbrev pub IsFromTo : ℕ → Option ℕ → ℕ → Type 0
IsFromTo n m k = (n ≤ k) × IfSome m (λ most. k ≤ most)

-- from x, a point of the graph, a walk of at least n and at most m steps leads to y
abbrev pub Repeated : Graph → Relation → ℕ → Option ℕ → Relation
Repeated g R n m x y = IsAt g x × ((zs : List Point) × IsFromTo n m (length zs) × IsWalk R x zs y)

-- a power of a relation: the zeroth is the identity on all points of the graph, and each next one is a step and then
-- the power before
unfoldable pub Power : Graph → Relation → ℕ → Relation
Power g R zero x y = IsAt g x × (x ≡ y)
Power g R (suc k) x y = (z : Point) × R x z × Power g R k z y
