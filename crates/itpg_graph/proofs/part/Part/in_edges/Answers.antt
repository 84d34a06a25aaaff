use Rattle.std.specs.Prelude.{option_map}
use Rattle.itpg_graph.proofs.GraphParts.{seen_stands, seen_edges}
use Rattle.itpg_graph.proofs.part.Part.in_edges.Goals as goal

pub in_edges-requires : goal.in_edges-requires
in_edges-requires c = seen_stands c.self.inside.graph.now c.args.self.now (option_map (λ o. o.now) c.self.inside.listed) c.args.o.0 c.self.view_is c.requires

pub returns : goal.returns
returns c = seen_edges _ c.self.inside.graph.now c.args.self.now (option_map (λ o. o.now) c.self.inside.listed) c.args.o.0 c.in_edges.result.now c.self.view_is c.in_edges.ensures
