-- How many rows a question has on a graph, and when it has none only since its steps ask that what they come to exists.
use Rattle.std.specs.Prelude.{◌≡◌, ℕ, List, length, Option, Some, None}
use Rattle.itpg_base.specs.Graphs.{Graph}
use Rattle.itpg_base.specs.Points.{Point}
use Rattle.relation_rows.specs.declared.rows.Row.{Row}
use Rattle.relation_rows.specs.Rows.{NormalRows}
use Rattle.path_ast.specs.Terms.{PathTerm}
use Rattle.path_ast.specs.Meaning.{Rel}
use Rattle.label_scope.specs.declared.scope.Scope.TheVariants.{All}
use Rattle.label_scope.specs.Members.{worked}
use Rattle.plan_cache.specs.RightRows.{AllFit}
use Rattle.path_eval.specs.Evaluated.{SomeIsWide}
use Rattle.answer_hints.specs.Relaxed.{relaxed}

-- the path leads from some point to some point
abbrev pub LeadsOn : Graph → PathTerm → Type 0
LeadsOn g p = (x y : Point) × Rel p g x y

-- on the graph the path leads nowhere; without the tests of existence behind its steps along edges it leads somewhere
pub record ExistenceRulesOut (g : Graph) (p : PathTerm) : Type 0 where
  pub nowhere : ¬ LeadsOn g p
  pub free : LeadsOn g (relaxed p)

-- each relation that is worked out for the path has at most so many normal rows
abbrev pub FitsWithin : Graph → ℕ → PathTerm → Type 0
FitsWithin g limit p = AllFit g limit (worked p All All)

-- some relation that is worked out for the path has more
abbrev pub IsTooWide : Graph → ℕ → PathTerm → Type 0
IsTooWide g limit p = SomeIsWide g limit (worked p All All)

-- the path fits, and it has so many normal rows
pub record HasManyRows (g : Graph) (limit : ℕ) (p : PathTerm) (n : ℕ) : Type 0 where
  pub rows : List Row
  pub normal : NormalRows (Rel p g) rows
  pub many : length rows ≡ n
  pub fits : FitsWithin g limit p

-- what is told of the number of its rows: none if it is too wide
abbrev pub IsRowNumber : Graph → ℕ → PathTerm → Option ℕ → Type 0
IsRowNumber g limit p None = IsTooWide g limit p
IsRowNumber g limit p (Some n) = HasManyRows g limit p n

-- the answer of a path: its normal rows, where it fits; none if it is too wide
pub record HasRowsWithin (g : Graph) (limit : ℕ) (p : PathTerm) (rows : List Row) : Type 0 where
  pub normal : NormalRows (Rel p g) rows
  pub fits : FitsWithin g limit p

abbrev pub IsAnswer : Graph → ℕ → PathTerm → Option (List Row) → Type 0
IsAnswer g limit p None = IsTooWide g limit p
IsAnswer g limit p (Some rows) = HasRowsWithin g limit p rows
