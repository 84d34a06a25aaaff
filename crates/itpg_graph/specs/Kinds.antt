-- Nodes and edges.
use Rattle.std.specs.Prelude.{◌≡◌, ℕ, Some, None, Option, IsTrue}
use Rattle.itpg_base.specs.Graphs.{Graph, Object, Ends, ObjectIs}
use Rattle.itpg_base.specs.declared.object_number.ObjNo.{ObjNo}
use Rattle.itpg_graph.specs.declared.graph.Kind.{Kind}
use Rattle.itpg_graph.specs.declared.graph.Kind.TheVariants.{Node, Edge}

abbrev pub kind_by : Option Ends → Kind
kind_by None = Node
kind_by (Some ends) = Edge

-- an object with ends is an edge, and each other is a node
abbrev pub kind_of : Object → Kind
kind_of x = kind_by x.ends

-- the two ends, the first of a pair being the source
abbrev pub ends_of : Option (ObjNo × ObjNo) → Option Ends
ends_of None = None
ends_of (Some n) = Some (record { source = n.0.0; target = n.1.0 })

-- the object is a standing node
abbrev pub IsNode : Graph → ℕ → Type 0
IsNode g o = ObjectIs g o (λ x. IsTrue x.standing × (x.ends ≡ None))
