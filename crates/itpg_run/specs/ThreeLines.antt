-- A summary has three lines.
use Rattle.std.specs.Prelude.{◌≡◌, ℕ, true, false, ◌⊎◌}
use Rattle.itpg_base.specs.Graphs.{Graph}
use Rattle.path_ast.specs.Terms.{QueryTerm}
use Rattle.relation_rows.specs.Answered.{Answered, row_number}
use Rattle.path_eval.specs.Answering.{AnswersQuery}
use Rattle.itpg_session.specs.Questions.{IsTooWide}
use Rattle.itpg_run.specs.Sums.{answer_sum}
use Rattle.itpg_run.specs.Summary.{Told, told_both, wide_text, rows_text, IsSummary}
use Rattle.itpg_run.specs.ScriptQueries.{risk_query, contact_query, alone_query}
use Rattle.itpg_run.specs.ScriptGraph.{script_graph}

-- the line of the question k, whose query is asked on the graph: that it is too wide
pub record IsWideLine (limit : ℕ) (g : Graph) (k : ℕ) (q : QueryTerm) (line : Told) : Type 0 where
  pub wide : IsTooWide g limit q
  pub is : line ≡ record { text = wide_text k; wide = true }

-- or how many rows its answer has, and their sum
pub record IsRowsLine (limit : ℕ) (g : Graph) (k : ℕ) (q : QueryTerm) (line : Told) : Type 0 where
  pub narrow : ¬ IsTooWide g limit q
  pub answer : Answered
  pub answers : AnswersQuery g q answer
  pub is : line ≡ record { text = rows_text k (row_number answer) (answer_sum answer); wide = false }

-- one of the two
abbrev pub IsLine : ℕ → Graph → ℕ → QueryTerm → Told → Type 0
IsLine limit g k q line = IsWideLine limit g k q line ⊎ IsRowsLine limit g k q line

-- three lines, one for each question of the script, on the graph that its edits build
pub record IsThreeLines (limit number : ℕ) (all : Told) : Type 0 where
  pub risk : Told
  pub contact : Told
  pub alone : Told
  pub first : IsLine limit (script_graph number) 1 risk_query risk
  pub second : IsLine limit (script_graph number) 2 contact_query contact
  pub third : IsLine limit (script_graph number) 3 alone_query alone
  pub is : all ≡ told_both risk (told_both contact alone)

-- each summary has exactly these
abbrev pub EachHasThreeLines : Type 0
EachHasThreeLines = (limit number : ℕ) (all : Told) → IsSummary limit number all → IsThreeLines limit number all
