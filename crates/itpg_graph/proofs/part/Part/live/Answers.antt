use Rattle.std.specs.Prelude.{option_map}
use Rattle.itpg_graph.proofs.GraphParts.{seen_stands, seen_object}
use Rattle.itpg_graph.proofs.part.Part.live.Goals as goal

pub live-requires : goal.live-requires
live-requires c = seen_stands c.self.inside.graph.now c.args.self.now (option_map (λ o. o.now) c.self.inside.listed) c.args.o.0 c.self.view_is c.requires

pub returns-clause-family : goal.returns-clause-family
returns-clause-family c = seen_object c.self.inside.graph.now c.args.self.now (option_map (λ o. o.now) c.self.inside.listed) c.args.o.0 _ c.self.view_is c.requires c.live.ensures.family
