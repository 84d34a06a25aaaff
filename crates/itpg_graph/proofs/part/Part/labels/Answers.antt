use Rattle.std.specs.Prelude.{option_map}
use Rattle.itpg_graph.proofs.GraphParts.{seen_stands, seen_object}
use Rattle.itpg_graph.proofs.part.Part.labels.Goals as goal

pub label_set-requires : goal.label_set-requires
label_set-requires c = seen_stands c.self.inside.graph.now c.args.self.now (option_map (λ o. o.now) c.self.inside.listed) c.args.o.0 c.self.view_is c.requires

pub returns : goal.returns
returns c = seen_object c.self.inside.graph.now c.args.self.now (option_map (λ o. o.now) c.self.inside.listed) c.args.o.0 _ c.self.view_is c.requires c.label_set.ensures
