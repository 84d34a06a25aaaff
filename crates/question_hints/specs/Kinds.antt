-- Between which kinds of objects, nodes and edges, a path can lead by its form.
use Rattle.std.specs.Prelude.{Bool, true, false, ◌&&◌, ◌||◌, not}
use Rattle.path_ast.specs.Terms.{PathTerm, OfTest, Forward, Backward, Next, Previous, Sequence, Choice, Repetition, TestTerm, IsNode, IsEdge, HasLabel, HasValue, IsBelow, DoesExist, Condition, Conjunction, Disjunction, Negation}
use Rattle.question_hints.specs.declared.kinds.Kinds.{Kinds}
use Rattle.question_hints.specs.declared.kinds.Leads.{Leads}

-- nodes and edges
abbrev pub either_kind : Kinds
either_kind = record { node = true; edge = true }

-- from each kind to itself, if it is among these
abbrev pub staying : Kinds → Leads
staying k = record { node_to_node = k.node; node_to_edge = false; edge_to_node = false; edge_to_edge = k.edge }

-- from a node to an edge, and from an edge to a node
abbrev pub crossing : Leads
crossing = record { node_to_node = false; node_to_edge = true; edge_to_node = true; edge_to_edge = false }

-- by the first and then by the second
abbrev pub chained : Leads → Leads → Leads
chained a b = record {
  node_to_node = (a.node_to_node && b.node_to_node) || (a.node_to_edge && b.edge_to_node);
  node_to_edge = (a.node_to_node && b.node_to_edge) || (a.node_to_edge && b.edge_to_edge);
  edge_to_node = (a.edge_to_node && b.node_to_node) || (a.edge_to_edge && b.edge_to_node);
  edge_to_edge = (a.edge_to_node && b.node_to_edge) || (a.edge_to_edge && b.edge_to_edge);
}

-- by one or the other
abbrev pub by_either : Leads → Leads → Leads
by_either a b = record {
  node_to_node = a.node_to_node || b.node_to_node;
  node_to_edge = a.node_to_edge || b.node_to_edge;
  edge_to_node = a.edge_to_node || b.edge_to_node;
  edge_to_edge = a.edge_to_edge || b.edge_to_edge;
}

-- the kinds from which it leads somewhere
abbrev pub starts : Leads → Kinds
starts a = record { node = a.node_to_node || a.node_to_edge; edge = a.edge_to_node || a.edge_to_edge }

-- it leads from no kind to any
abbrev pub is_nowhere : Leads → Bool
is_nowhere a = not ((a.node_to_node || a.node_to_edge) || (a.edge_to_node || a.edge_to_edge))

-- between which kinds a path can lead, and of which kinds a test can hold. A repetition of any number of times also stays
abbrev mutual
  pub leads_of : PathTerm → Leads
  leads_of (OfTest c) = staying (kinds_of c)
  leads_of Forward = crossing
  leads_of Backward = crossing
  leads_of Next = staying either_kind
  leads_of Previous = staying either_kind
  leads_of (Sequence p q) = chained (leads_of p) (leads_of q)
  leads_of (Choice p q) = by_either (leads_of p) (leads_of q)
  leads_of (Repetition p n m) = by_either (staying either_kind) (leads_of p)

  pub kinds_of : TestTerm → Kinds
  kinds_of IsNode = record { node = true; edge = false }
  kinds_of IsEdge = record { node = false; edge = true }
  kinds_of (HasLabel label) = either_kind
  kinds_of (HasValue prop value) = either_kind
  kinds_of (IsBelow k) = either_kind
  kinds_of DoesExist = either_kind
  kinds_of (Condition p) = starts (leads_of p)
  kinds_of (Conjunction c d) = record { node = (kinds_of c).node && (kinds_of d).node; edge = (kinds_of c).edge && (kinds_of d).edge }
  kinds_of (Disjunction c d) = record { node = (kinds_of c).node || (kinds_of d).node; edge = (kinds_of c).edge || (kinds_of d).edge }
  kinds_of (Negation c) = either_kind
