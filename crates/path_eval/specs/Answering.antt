-- What answers a query: the rows of its path, or the objects at the moments at which the path departs or arrives.
use Rattle.std.specs.Prelude.{◌≡◌, ℕ, ℤ, Bool, true, false, List}
use Rattle.itpg_base.specs.Graphs.{Graph}
use Rattle.itpg_base.specs.Points.{Point, Relation}
use Rattle.relation_rows.specs.declared.rows.Row.{Row}
use Rattle.relation_rows.specs.Rows.{NormalRows}
use Rattle.relation_rows.specs.Times.{AreTimes, Departs, Arrives}
use Rattle.relation_rows.specs.Answered.{Answered, pairs, times}
use Rattle.path_ast.specs.Terms.{QueryTerm}
use Rattle.path_ast.specs.Meaning.{Rel}

-- the relation leads from the object at the moment to some point
abbrev pub DepartsAt : Relation → ℕ → ℤ → Type 0
DepartsAt R o t = (y : Point) × R (record { object = o; moment = t }) y

-- the relation leads from some point to the object at the moment
abbrev pub ArrivesAt : Relation → ℕ → ℤ → Type 0
ArrivesAt R o t = (x : Point) × R x (record { object = o; moment = t })

-- the answer of a relation: where both ends are asked for its normal rows, where one is the runs of each object's moments at
-- which it departs, or arrives. Where none is, nothing is the answer
abbrev pub IsAnswer : Bool → Bool → Relation → Answered → Type 0
IsAnswer true true R (pairs rows) = NormalRows R rows
IsAnswer true true R (times rows) = ⊥
IsAnswer true false R (pairs rows) = ⊥
IsAnswer true false R (times rows) = AreTimes (DepartsAt R) rows
IsAnswer false true R (pairs rows) = ⊥
IsAnswer false true R (times rows) = AreTimes (ArrivesAt R) rows
IsAnswer false false R (pairs rows) = ⊥
IsAnswer false false R (times rows) = ⊥

-- the same, from the normal rows of a relation
abbrev pub IsAnswerFrom : Bool → Bool → List Row → Answered → Type 0
IsAnswerFrom true true own (pairs rows) = rows ≡ own
IsAnswerFrom true true own (times rows) = ⊥
IsAnswerFrom true false own (pairs rows) = ⊥
IsAnswerFrom true false own (times rows) = AreTimes (Departs own) rows
IsAnswerFrom false true own (pairs rows) = ⊥
IsAnswerFrom false true own (times rows) = AreTimes (Arrives own) rows
IsAnswerFrom false false own (pairs rows) = ⊥
IsAnswerFrom false false own (times rows) = ⊥

-- the answer of a query, by the ends that it names
abbrev pub AnswersQuery : Graph → QueryTerm → Answered → Type 0
AnswersQuery g q rows = IsAnswer q.first q.last (Rel q.path g) rows
