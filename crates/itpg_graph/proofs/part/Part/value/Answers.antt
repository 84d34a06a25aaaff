use Rattle.std.specs.Prelude.{option_map, IsNone}
use Rattle.std.specs.Borrow.{Bor}
use Rattle.interval_set.specs.declared.values.ValuedSet.{ValuedSet}
use Rattle.itpg_graph.proofs.GraphParts.{seen_stands, seen_place, seen_some, seen_none}
use Rattle.itpg_graph.proofs.part.Part.value.Goals as goal

pub value-requires : goal.value-requires
value-requires c = seen_stands c.self.inside.graph.now c.args.self.now (option_map (λ o. o.now) c.self.inside.listed) c.args.o.0 c.self.view_is c.requires

pub returns-clause-some : goal.returns-clause-some
returns-clause-some c =
    seen_some c.value.result (λ (values : Bor ValuedSet). values.now) c.self.inside.graph.now c.args.self.now c.args.o.0 c.args.prop.now
    (seen_place c.self.inside.graph.now c.args.self.now (option_map (λ o. o.now) c.self.inside.listed) c.args.o.0 c.self.view_is c.requires) c.value.ensures.some

pub returns-clause-none : goal.returns-clause-none
returns-clause-none c =
    seen_none c.self.inside.graph.now c.args.self.now c.args.o.0 c.args.prop.now (IsNone c.value.result)
    (seen_place c.self.inside.graph.now c.args.self.now (option_map (λ o. o.now) c.self.inside.listed) c.args.o.0 c.self.view_is c.requires) c.value.ensures.none
