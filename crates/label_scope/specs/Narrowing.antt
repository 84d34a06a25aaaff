-- A path between two scopes.
use Rattle.std.specs.Prelude.{Bool, true, false}
use Rattle.itpg_base.specs.Graphs.{Graph}
use Rattle.itpg_base.specs.Points.{Point}
use Rattle.path_ast.specs.Terms.{PathTerm}
use Rattle.path_ast.specs.Meaning.{Rel, keeps_object}
use Rattle.label_scope.specs.declared.scope.Scope.{Scope}
use Rattle.label_scope.specs.Scopes.{IsWithin, met, source_scope, target_scope}

-- a scope for the sources of a path and one for its targets
pub record Scopes : Type 0 where
  pub sources : Scope
  pub targets : Scope

-- the path leads from x to y, the object of x is within the one scope and that of y within the other
pub record Cut (g : Graph) (p : PathTerm) (sources targets : Scope) (x y : Point) : Type 0 where
  pub leads : Rel p g x y
  pub source : IsWithin sources g x.object
  pub target : IsWithin targets g y.object

-- where a path keeps its object and exactly one of its scopes is `All`, that one becomes the other
abbrev pub both_where : Bool → Scope → Scope → Scopes
both_where true a b = record { sources = met a b; targets = met b a }
both_where false a b = record { sources = a; targets = b }

-- the scopes without what the path's own labels rule out
abbrev pub narrowed : PathTerm → Scope → Scope → Scopes
narrowed p a b = both_where (keeps_object p) (met a (source_scope p)) (met b (target_scope p))
