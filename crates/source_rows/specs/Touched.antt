-- The objects that an edit touches.
use Rattle.std.specs.Prelude.{◌≡◌, ℕ, List, Option, length, ◌⊎◌, ◌↔◌, IsSomeAnd}
use Rattle.itpg_base.specs.Graphs.{Graph, Named, HasEnd}
use Rattle.itpg_base.specs.declared.object_number.ObjNo.{ObjNo}
use Rattle.itpg_graph.specs.Edges.{HasNumber}
use Rattle.itpg_edit.specs.declared.edit.Edit.{Edit}
use Rattle.itpg_edit.specs.declared.edit.Edit.TheVariants.{Begin, Extend, AddNode, AddEdge, Live, Gone, Put, Clear, Remove}
use Rattle.source_rows.specs.Reach.{Reach}
use Rattle.source_rows.specs.declared.touched.Touched.{Touched}
use Rattle.source_rows.specs.declared.touched.Touched.TheVariants.{Everything, These}

-- the set has the object
abbrev pub Has : Touched → ℕ → Type 0
Has Everything o = Unit {0}
Has (These first second third) o = (o ≡ first.0) ⊎ (IsSomeAnd second (λ end. o ≡ end.0) ⊎ IsSomeAnd third (λ end. o ≡ end.0))

-- one of the objects is in the set
abbrev pub Meets : Touched → List ObjNo → Type 0
Meets touched objects = (o : ℕ) × HasNumber objects o × Has touched o

-- on the graph before the edit: the object that it names or declares, for a new or dropped edge its two ends too, and every
-- object where the graph is begun or extended
abbrev pub IsTouched : Graph → Edit → ℕ → Type 0
IsTouched g (Begin name lo hi) o = Unit {0}
IsTouched g (Extend lo hi) o = Unit {0}
IsTouched g (AddNode id labels) o = o ≡ length g.objects
IsTouched g (AddEdge id labels source target) o = (o ≡ length g.objects) ⊎ (Named g o source ⊎ Named g o target)
IsTouched g (Live id from to) o = Named g o id
IsTouched g (Gone id from to) o = Named g o id
IsTouched g (Put id prop value from to) o = Named g o id
IsTouched g (Clear id prop from to) o = Named g o id
IsTouched g (Remove id) o = Named g o id ⊎ ((e : ℕ) × Named g e id × HasEnd g e o)

-- the set has exactly what the edit touches
abbrev pub AreTouched : Graph → Edit → Touched → Type 0
AreTouched g edit touched = (o : ℕ) → Has touched o ↔ IsTouched g edit o

-- the edit touches nothing that is reached from o in so many steps
abbrev pub IsUntouched : Graph → Edit → ℕ → Option ℕ → Type 0
IsUntouched g edit o bound = (a : ℕ) → Reach g o bound a → ¬ IsTouched g edit a
