-- The rows of a path from one object, as they are worked out near it.
use Rattle.std.specs.Prelude.{◌≡◌, ℕ, List}
use Rattle.itpg_base.specs.Graphs.{Graph}
use Rattle.itpg_base.specs.Points.{Relation}
use Rattle.relation_rows.specs.declared.rows.Row.{Row}
use Rattle.relation_rows.specs.Rows.{NormalRows}
use Rattle.path_ast.specs.Terms.{PathTerm}
use Rattle.path_ast.specs.Meaning.{Rel}
use Rattle.label_scope.specs.declared.scope.Scope.TheVariants.{All}
use Rattle.label_scope.specs.Members.{worked}
use Rattle.source_rows.specs.Steps.{path_steps}
use Rattle.source_rows.specs.Near.{IsNear}
use Rattle.path_eval.specs.Evaluated.{SomeIsWide}

-- the relation from one object alone
abbrev pub FromObject : ℕ → Relation → Relation
FromObject o R x y = (x.object ≡ o) × R x y

-- the normal rows of a path from an object
abbrev pub AreRowsFrom : Graph → PathTerm → ℕ → List Row → Type 0
AreRowsFrom g p o rows = NormalRows (FromObject o (Rel p g)) rows

-- the path is too wide near the object: on its neighbourhood some worked member of the path has more normal rows than the limit
pub record IsTooWideNear (g : Graph) (limit : ℕ) (p : PathTerm) (o : ℕ) : Type 0 where
  pub near : Graph
  pub is : IsNear g o (path_steps p) near
  pub wide : SomeIsWide near limit (worked p All All)
