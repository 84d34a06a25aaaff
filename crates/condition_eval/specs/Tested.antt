-- Tests at the points of a graph.
use Rattle.std.specs.Prelude.{◌≡◌, ℕ, List, Some, option_map}
use Rattle.itpg_base.specs.declared.object_number.ObjNo.{ObjNo}
use Rattle.itpg_base.specs.Spans.{Span}
use Rattle.itpg_base.specs.Graphs.{Graph, Stands}
use Rattle.itpg_base.specs.Points.{Point, IsAt}
use Rattle.path_ast.specs.Terms.{TestTerm}
use Rattle.path_ast.specs.Meaning.{Sat}
use Rattle.relation_rows.specs.declared.rows.Row.{Row}
use Rattle.relation_rows.specs.Times.{Departs}
use Rattle.relation_rows.specs.Relations.{IsOneOf}

-- it is a point of the graph, and the test holds there
abbrev pub HoldsAt : TestTerm → Graph → Point → Type 0
HoldsAt c g x = IsAt g x × Sat c g x

-- it is a point of the graph, and some pair of the rows starts there
abbrev pub StartsAt : List Row → Graph → Point → Type 0
StartsAt rows g x = IsAt g x × Departs rows x.object x.moment

-- each object of the list stands
abbrev pub Stand : Graph → List ObjNo → Type 0
Stand g objects = (o : ℕ) → IsOneOf objects o → Stands g o

-- the graph is begun, and this is its horizon
abbrev pub HasHorizon : Graph → Span → Type 0
HasHorizon g horizon = option_map (λ b. b.horizon) g.begun ≡ Some horizon
