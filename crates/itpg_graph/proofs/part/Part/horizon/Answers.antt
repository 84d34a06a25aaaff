use Rattle.std.proofs.Common.{◌∙◌, ap}
use Rattle.std.specs.Prelude.{Option, option_map}
use Rattle.itpg_base.specs.Graphs.{Begun}
use Rattle.itpg_graph.proofs.GraphParts.{seen_good, seen_begun}
use Rattle.itpg_graph.proofs.part.Part.horizon.Goals as goal

pub returns-clause-value : goal.returns-clause-value
returns-clause-value c =
    c.horizon.ensures.value ∙ ap (λ (b : Option Begun). option_map (λ x. x.horizon) b) (seen_begun c.self.inside.graph.now c.args.self.now (option_map (λ o. o.now) c.self.inside.listed) c.self.view_is)

pub returns-clause-good : goal.returns-clause-good
returns-clause-good c = seen_good c.self.inside.graph.now c.args.self.now (option_map (λ o. o.now) c.self.inside.listed) c.self.view_is c.self.invariant c.horizon.ensures.good
