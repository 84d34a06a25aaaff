-- Points of a graph, and relations between them.
use Rattle.std.specs.Prelude.{ℕ, ℤ}
use Rattle.itpg_base.specs.Graphs.{Graph, IsPoint}

-- an object, by its number, at a moment
pub record Point : Type 0 where
  pub object : ℕ
  pub moment : ℤ

-- a relation between points: a set of quadruples (object, moment, object, moment)
abbrev pub Relation : Type 1
Relation = Point → Point → Type 0

-- it is a point of the graph: its object stands, and its moment is in the horizon
abbrev pub IsAt : Graph → Point → Type 0
IsAt g x = IsPoint g x.object x.moment
