use Rattle.std.proofs.Common.{subst}
use Rattle.itpg_graph.specs.Edges.{LeadsFrom, AreNumbers}
use Rattle.itpg_graph.proofs.graph.Graph.out_edges.Goals as goal

pub returns : goal.returns
returns c = subst (λ g. AreNumbers (LeadsFrom g c.args.o.0) c.at.result.now) c.self.view_is (c.self.invariant.store.sources.each c.args.o.0 c.at.result.now c.at.ensures)
