use Rattle.std.proofs.Common.{sym, subst}
use Rattle.itpg_graph.specs.Edges.{AreNumbers}
use Rattle.itpg_graph.specs.WithLabel.{StandsWith}
use Rattle.itpg_graph.specs.Stores.{graph_of}
use Rattle.itpg_graph.proofs.graph.Graph.labelled.Goals as goal

pub returns-clause-numbers : goal.returns-clause-numbers
returns-clause-numbers c =
    let label = c.args.label.now in
    subst (λ g. AreNumbers (StandsWith g label) c.at.result.now) c.self.view_is
    (subst (AreNumbers (StandsWith (graph_of c.self.inside.opened c.self.inside.objects.items) label)) (sym c.at.ensures) (c.self.invariant.labels.each label))
