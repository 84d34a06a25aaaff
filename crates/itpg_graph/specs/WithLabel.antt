-- The objects with a label.
use Rattle.std.specs.Prelude.{ℕ, IsTrue, Contains}
use Rattle.itpg_base.specs.Words.{Word}
use Rattle.itpg_base.specs.Graphs.{Graph, ObjectIs}

-- the object stands and has the label
abbrev pub StandsWith : Graph → Word → ℕ → Type 0
StandsWith g label o = ObjectIs g o (λ x. IsTrue x.standing × Contains x.labels label)
