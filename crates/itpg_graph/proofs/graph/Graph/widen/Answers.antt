use Rattle.std.proofs.Common.{◌≡◌, Some, sym, subst, rules}
use Rattle.itpg_base.specs.Graphs.{Graph}
use Rattle.itpg_graph.specs.Links.{links_of}
use Rattle.itpg_graph.specs.LabelLists.{held, AreHeld}
use Rattle.itpg_graph.specs.Stores.{graph_of, IsStore}
use Rattle.itpg_graph.specs.Changes.{widened}
use Rattle.itpg_graph.proofs.Widening.{widened_store}
use Rattle.itpg_graph.proofs.graph.Graph.widen.Goals as goal

pub invariant_of-self : goal.invariant_of-self
invariant_of-self c =
    let items = c.self.inside.objects.items in
    let new : Graph = graph_of (Some (record { name = c.unwrap.result.now.name; horizon = c.args.horizon })) items in
    let grown : new ≡ widened c.args.self.now c.args.horizon = search rules in
    let numbers = c.self.inside.numbers in
    let out = links_of c.self.inside.out in
    let into = links_of c.self.inside.into in
    let store = subst (λ g. IsStore g numbers out into) c.self.view_is c.self.invariant.store in
    let lists = held c.self.inside.by_label in
    let labels = subst (λ g. AreHeld g lists) c.self.view_is c.self.invariant.labels in
    let kept : AreHeld (widened c.args.self.now c.args.horizon) lists = record { each = labels.each } in
    record {
      store = subst (λ g. IsStore g numbers out into) (sym grown) (widened_store c.args.self.now c.args.horizon c.from.ensures.ordered c.requires.from c.requires.to c.requires.wider numbers out into store);
      labels = subst (λ g. AreHeld g lists) (sym grown) kept;
    }
