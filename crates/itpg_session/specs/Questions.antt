-- What answers a query, or a query from one object alone: that it is too wide, or its answer.
use Rattle.std.specs.Prelude.{ℕ}
use Rattle.itpg_base.specs.Graphs.{Graph}
use Rattle.path_ast.specs.Terms.{QueryTerm}
use Rattle.relation_rows.specs.Answered.{Answered, pairs, times}
use Rattle.label_scope.specs.declared.scope.Scope.TheVariants.{All}
use Rattle.label_scope.specs.Members.{worked}
use Rattle.path_eval.specs.Evaluated.{SomeIsWide}
use Rattle.path_eval.specs.Answering.{AnswersQuery}
use Rattle.path_eval.specs.Nearby.{IsTooWideNear, AreRowsFrom}

-- the query is too wide: the relation of some worked member of its path has more normal rows than the limit
abbrev pub IsTooWide : Graph → ℕ → QueryTerm → Type 0
IsTooWide g limit q = SomeIsWide g limit (worked q.path All All)

-- it isn't too wide, and this is its answer
abbrev pub HasAnswer : Graph → ℕ → QueryTerm → Answered → Type 0
HasAnswer g limit q answer = (¬ IsTooWide g limit q) × AnswersQuery g q answer

-- near the object the query isn't too wide, and these are the rows of its path from the object
abbrev pub HasRowsFrom : Graph → ℕ → QueryTerm → ℕ → Answered → Type 0
HasRowsFrom g limit q o (pairs rows) = (¬ IsTooWideNear g limit q.path o) × AreRowsFrom g q.path o rows
HasRowsFrom g limit q o (times rows) = ⊥
