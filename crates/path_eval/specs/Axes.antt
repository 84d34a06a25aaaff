-- The axes along edges, object by object.
use Rattle.std.specs.Prelude.{◌⊎◌, ℕ, ℤ, pos, int_lt, if◌then◌else◌, List}
use Rattle.itpg_base.specs.declared.object_number.ObjNo.{ObjNo}
use Rattle.itpg_base.specs.Graphs.{Graph, Stands}
use Rattle.itpg_base.specs.Points.{Point, Relation}
use Rattle.itpg_graph.specs.Edges.{LeadsFrom, LeadsTo}
use Rattle.zone_core.specs.declared.Bounds.{Bounds}
use Rattle.itpg_base.specs.Lists.{Among}
use Rattle.relation_rows.specs.Relations.{InItem}
use Rattle.path_ast.specs.Terms.{PathTerm, Forward, Backward, Next, Previous}
use Rattle.path_ast.specs.Meaning.{HasSource, HasTarget}
use Rattle.label_scope.specs.declared.scope.Scope.{Scope}
use Rattle.label_scope.specs.Scopes.{IsWithin}
use Rattle.path_eval.specs.declared.axes.Direction.{Direction}
use Rattle.path_eval.specs.declared.axes.Direction.TheVariants as to

-- the axis in this direction
abbrev pub axis_of : Direction → PathTerm
axis_of to.Forward = Forward
axis_of to.Backward = Backward

-- the axis in time by one step: to the next moment by 1, and else to the one before
abbrev pub axis_in_time : ℤ → PathTerm
axis_in_time step = if int_lt (pos 0) step then Next else Previous

-- the one object leads to the other in this direction: a node to an edge, or an edge to a node
abbrev pub Joins : Direction → Graph → ℕ → ℕ → Type 0
Joins to.Forward g o p = HasSource g p o ⊎ HasTarget g o p
Joins to.Backward g o p = HasTarget g p o ⊎ HasSource g o p

-- the end of an edge that the direction leads to; its source is the first of the two
abbrev pub far_end : Direction → ObjNo × ObjNo → ObjNo
far_end to.Forward ends = ends.1
far_end to.Backward ends = ends.0

-- e is a standing edge that the direction leads to from the node
abbrev pub LeadsToEdge : Direction → Graph → ℕ → ℕ → Type 0
LeadsToEdge to.Forward g o e = LeadsFrom g o e
LeadsToEdge to.Backward g o e = LeadsTo g o e

-- from each object of the list to itself, at the moments of the zone
abbrev pub OnEach : Bounds → List ObjNo → Relation
OnEach zone list x y = (o : ObjNo) × Among list o × InItem (o, o, zone) x y

-- from the one object to the other, where that stands and is within the scope, at the moments of the zone
pub record StepTo (targets : Scope) (g : Graph) (zone : Bounds) (o p : ObjNo) (x y : Point) : Type 0 where
  pub stands : Stands g p.0
  pub within : IsWithin targets g p.0
  pub item : InItem (o, p, zone) x y

-- the same to some object of the list
abbrev pub StepToOne : Scope → Graph → Bounds → ObjNo → List ObjNo → Relation
StepToOne targets g zone o list x y = (p : ObjNo) × Among list p × StepTo targets g zone o p x y

-- the same to each object that the direction leads to
abbrev pub StepsFrom : Direction → Scope → Graph → Bounds → ObjNo → Relation
StepsFrom direction targets g zone o x y = (p : ObjNo) × Joins direction g o.0 p.0 × StepTo targets g zone o p x y

-- the same from some object of the list
abbrev pub StepsFromAny : Direction → Scope → Graph → Bounds → List ObjNo → Relation
StepsFromAny direction targets g zone list x y = (o : ObjNo) × Among list o × StepsFrom direction targets g zone o x y
