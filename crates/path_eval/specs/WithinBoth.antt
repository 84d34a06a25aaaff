-- The objects within two scopes, at which paths that keep their object start and end.
use Rattle.std.specs.Prelude.{ℕ, List}
use Rattle.itpg_base.specs.declared.object_number.ObjNo.{ObjNo}
use Rattle.itpg_base.specs.Graphs.{Graph, Stands}
use Rattle.itpg_base.specs.Lists.{Among}
use Rattle.itpg_base.specs.Words.{Word}
use Rattle.relation_rows.specs.Relations.{Rise, IsOneOf}
use Rattle.label_scope.specs.declared.scope.Scope.{Scope}
use Rattle.label_scope.specs.Scopes.{Has, IsWithin}
use Rattle.condition_eval.specs.Tested.{Stand}

-- the objects rise, stand, and are within the scope; others may be too
pub record RiseWithin (scope : Scope) (g : Graph) (objects : List ObjNo) : Type 0 where
  pub rise : Rise objects
  pub stand : Stand g objects
  pub within : (o : ℕ) → IsOneOf objects o → IsWithin scope g o

-- the objects rise, and they are exactly those that stand and are within both scopes
pub record AreWithinBoth (a b : Scope) (g : Graph) (objects : List ObjNo) : Type 0 where
  pub first : RiseWithin a g objects
  pub second : (o : ℕ) → IsOneOf objects o → IsWithin b g o
  pub whole : (o : ℕ) → Stands g o → IsWithin a g o → IsWithin b g o → IsOneOf objects o

-- of the objects exactly those within the scope are kept, and they rise
pub record AreThoseWithin (scope : Scope) (g : Graph) (objects kept : List ObjNo) : Type 0 where
  pub rise : Rise kept
  pub there : (o : ObjNo) → Among kept o → Among objects o
  pub within : (o : ObjNo) → Among kept o → IsWithin scope g o.0
  pub whole : (o : ObjNo) → Among objects o → IsWithin scope g o.0 → Among kept o

-- each set of labels that the second scope has, the first has too
abbrev pub IsWider : Scope → Scope → Type 0
IsWider a b = (labels : List Word) → Has b labels → Has a labels
