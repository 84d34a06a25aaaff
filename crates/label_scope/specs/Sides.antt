-- For the crate's own functions: the scope at one end of a path.
use Rattle.path_ast.specs.Terms.{PathTerm}
use Rattle.label_scope.specs.declared.scope.Scope.{Scope}
use Rattle.label_scope.specs.declared.paths.PathEnd.{PathEnd}
use Rattle.label_scope.specs.declared.paths.PathEnd.TheVariants.{Start, Finish}
use Rattle.label_scope.specs.Scopes.{source_scope, target_scope}

-- where the path can be at this end
abbrev pub scope_at : PathEnd → PathTerm → Scope
scope_at Start p = source_scope p
scope_at Finish p = target_scope p
