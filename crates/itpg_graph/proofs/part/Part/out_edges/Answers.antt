use Rattle.std.specs.Prelude.{option_map}
use Rattle.itpg_graph.proofs.GraphParts.{seen_stands, seen_edges}
use Rattle.itpg_graph.proofs.part.Part.out_edges.Goals as goal

pub out_edges-requires : goal.out_edges-requires
out_edges-requires c = seen_stands c.self.inside.graph.now c.args.self.now (option_map (λ o. o.now) c.self.inside.listed) c.args.o.0 c.self.view_is c.requires

pub returns : goal.returns
returns c = seen_edges _ c.self.inside.graph.now c.args.self.now (option_map (λ o. o.now) c.self.inside.listed) c.args.o.0 c.out_edges.result.now c.self.view_is c.out_edges.ensures
