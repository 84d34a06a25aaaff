use Rattle.std.proofs.Common.{sym, subst}
use Rattle.std.specs.Prelude.{IsNone}
use Rattle.itpg_graph.specs.Links.{links_of}
use Rattle.itpg_graph.specs.Stores.{graph_of}
use Rattle.itpg_graph.proofs.Views.{begun_store}
use Rattle.itpg_graph.proofs.graph.Graph.begin.Goals as goal

pub invariant_of-self : goal.invariant_of-self
invariant_of-self c =
    record { store = begun_store (graph_of c.self.inside.opened c.self.inside.objects.items) c.args.name c.args.horizon c.self.inside.numbers (links_of c.self.inside.out) (links_of c.self.inside.into) c.self.invariant.store (subst (λ g. IsNone g.begun) (sym c.self.view_is) c.requires.new) c.from.ensures.ordered c.requires.from c.requires.to; labels = record { each = c.self.invariant.labels.each } }
