use Rattle.std.proofs.Common.{◌≡◌, ◌∙◌, sym, subst, ap, arith, take_all}
use Rattle.itpg_graph.specs.LabelLists.{held, AreHeld}
use Rattle.itpg_graph.specs.Links.{links_of}
use Rattle.itpg_graph.specs.Stores.{graph_of}
use Rattle.itpg_graph.proofs.Labels.{labels_same}
use Rattle.itpg_graph.proofs.Copied.{copied_store}
use Rattle.itpg_graph.proofs.graph.Graph.copy.Goals as goal

pub invariant_of-result : goal.invariant_of-result
invariant_of-result c =
    let same : c.loop-object.objects.items ≡ c.self.inside.objects.items =
    c.loop-object.invariant ∙ take_all c.loop-object.object-index c.deref-object-items.result.now (omega (arith, c.loop-object-test.false)) ∙ c.deref-object-items.ensures.value in
    let graph = graph_of c.self.inside.opened c.self.inside.objects.items in
    let view = ap (graph_of c.self.inside.opened) same in
    record {
      store = copied_store graph (graph_of c.self.inside.opened c.loop-object.objects.items) c.self.inside.numbers c.in_ok-copy.field-0
          (links_of c.self.inside.out) (links_of c.in_ok-copy-2.field-0) (links_of c.self.inside.into) (links_of c.in_ok-copy-3.field-0) view c.in_ok-copy.ensures c.in_ok-copy-2.ensures c.in_ok-copy-3.ensures c.self.invariant.store;
      labels = subst (λ g. AreHeld g (held c.in_ok-copy-4.field-0)) (sym view) (labels_same graph (held c.self.inside.by_label) (held c.in_ok-copy-4.field-0) c.self.invariant.labels c.in_ok-copy-4.ensures);
    }
