use Rattle.std.specs.Prelude.{option_map}
use Rattle.itpg_graph.proofs.GraphParts.{seen_stands, seen_object, seen_nodes}
use Rattle.itpg_graph.proofs.part.Part.ends.Goals as goal

pub ends-requires : goal.ends-requires
ends-requires c = seen_stands c.self.inside.graph.now c.args.self.now (option_map (λ o. o.now) c.self.inside.listed) c.args.o.0 c.self.view_is c.requires

pub returns-clause-ends : goal.returns-clause-ends
returns-clause-ends c = seen_object c.self.inside.graph.now c.args.self.now (option_map (λ o. o.now) c.self.inside.listed) c.args.o.0 _ c.self.view_is c.requires c.ends.ensures.ends

pub returns-clause-nodes : goal.returns-clause-nodes
returns-clause-nodes c = seen_nodes c.self.inside.graph.now c.args.self.now (option_map (λ o. o.now) c.self.inside.listed) c.args.o.0 c.ends.result c.self.view_is c.self.invariant c.requires c.ends.ensures.ends c.ends.ensures.nodes
