-- The objects of a graph that are within a scope.
use Rattle.std.specs.Prelude.{ℕ, List}
use Rattle.itpg_base.specs.declared.object_number.ObjNo.{ObjNo}
use Rattle.itpg_base.specs.Graphs.{Graph, Stands}
use Rattle.label_scope.specs.declared.scope.Scope.{Scope}
use Rattle.label_scope.specs.Scopes.{IsWithin}
use Rattle.relation_rows.specs.Relations.{Rise, IsOneOf}
use Rattle.condition_eval.specs.Tested.{Stand}

-- the objects rise, and they are exactly those that stand and are within the scope
pub record AreWithin (scope : Scope) (g : Graph) (objects : List ObjNo) : Type 0 where
  pub rise : Rise objects
  pub whole : (o : ℕ) → Stands g o → IsWithin scope g o → IsOneOf objects o
  pub stand : Stand g objects
  pub within : (o : ℕ) → IsOneOf objects o → IsWithin scope g o
