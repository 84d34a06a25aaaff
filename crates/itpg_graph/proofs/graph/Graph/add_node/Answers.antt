use Rattle.std.proofs.Common.{◌≡◌, ◌∷◌, ◌++◌, [], ℕ, Some, None, refl, length, ap, ◌∙◌, ◌<◌, sym, subst, rules}
use Rattle.std.specs.Prelude.{IsSome}
use Rattle.itpg_base.specs.Graphs.{Graph, Named}
use Rattle.itpg_base.specs.declared.object_number.ObjNo.{ObjNo}
use Rattle.itpg_graph.specs.Links.{links_of}
use Rattle.itpg_graph.specs.Stores.{graph_of, IsStore, listed}
use Rattle.itpg_graph.specs.Changes.{with_node, new_object}
use Rattle.itpg_graph.specs.LabelLists.{held, AreHeld}
use Rattle.itpg_graph.proofs.Goodness.{pushed}
use Rattle.itpg_graph.proofs.Labels.{labels_push, labels_same}
use Rattle.itpg_graph.proofs.Views.{node_store, added}
use Rattle.itpg_graph.proofs.graph.Graph.add_node.Goals as goal

pub invariant_of-self-2 : goal.invariant_of-self-2
invariant_of-self-2 c =
    let is = sym c.self.view_is in
    let old = c.self.inside.objects.items in
    let g : Graph = graph_of c.self.inside.opened old in
    let node = c.in_ok-node.node in
    let items : c.push_reserved.new.self.items ≡ old ++ node ∷ [] = search rules in
    let number : ObjNo = record { 0 = c.len-2.result } in
    let count : c.len-2.result ≡ length old = search rules in
    let next : number.0 ≡ length old = count in
    let table : listed c.list.new.self c.args.name ≡ Some (length old) = c.in_ok-list.ensures.ok ∙ ap Some next in
    let out = links_of c.self.inside.out in
    let into = links_of c.self.inside.into in
    let more_out : links_of c.push.new.self ≡ out ++ [] ∷ [] = c.push.ensures ∙ ap (λ ls. ls ++ [] ∷ []) c.reserve-2.ensures.same in
    let more_into : links_of c.push-2.new.self ≡ into ++ [] ∷ [] = c.push-2.ensures ∙ ap (λ ls. ls ++ [] ∷ []) c.reserve-3.ensures.same in
    let store = node_store g c.args.name c.args.labels c.self.inside.numbers c.list.new.self out into c.self.invariant.store c.len.ensures.set
    (subst (λ g. (o : ℕ) → Named g o c.args.name → ⊥) is c.requires.free) (subst (λ g. length g.objects < 200000) is c.requires.room) table c.in_ok-list.ensures.others
    (subst (λ g. IsSome g.begun) is c.requires.begun) in
    let was = held c.self.inside.by_label in
    let lists = held c.push-3.new.self in
    let labels = labels_push g (new_object c.args.name c.args.labels None) refl number next was lists c.self.invariant.labels
    (λ label has. c.push-3.ensures.own label has ∙ ap (λ l. l ++ number ∷ []) (c.reserve-4.ensures.same label)) (λ label out. c.push-3.ensures.others label out ∙ c.reserve-4.ensures.same label) in
    let view : graph_of c.self.inside.opened c.push_reserved.new.self.items ≡ pushed g (new_object c.args.name c.args.labels None) = ap (graph_of c.self.inside.opened) items ∙ added c.self.inside.opened old node ∙ ap (pushed g) (c.in_ok-node.ensures ∙ ap (λ ls. new_object c.args.name ls None) c.in_ok-shared.ensures) in
    record {
      store = subst (λ h. IsStore h c.list.new.self (links_of c.push.new.self) (links_of c.push-2.new.self)) (sym view)
          (subst (λ ls. IsStore (with_node g c.args.name c.args.labels) c.list.new.self ls (links_of c.push-2.new.self)) (sym more_out)
          (subst (λ ls. IsStore (with_node g c.args.name c.args.labels) c.list.new.self (out ++ [] ∷ []) ls) (sym more_into) store));
      labels = subst (λ h. AreHeld h lists) (sym view) labels;
    }

pub invariant_of-self-in_err-reserve-4 : goal.invariant_of-self-in_err-reserve-4
invariant_of-self-in_err-reserve-4 c =
    let g : Graph = graph_of c.self.inside.opened c.self.inside.objects.items in
    let out = links_of c.self.inside.out in
    let view : graph_of c.self.inside.opened c.reserve.new.self.items ≡ g = ap (graph_of c.self.inside.opened) c.reserve.ensures.items in
    record {
      store = subst (λ h. IsStore h c.self.inside.numbers (links_of c.reserve-2.new.self) (links_of c.reserve-3.new.self)) (sym view)
          (subst (λ ls. IsStore g c.self.inside.numbers ls (links_of c.reserve-3.new.self)) (sym c.reserve-2.ensures.same)
          (subst (λ ls. IsStore g c.self.inside.numbers out ls) (sym c.reserve-3.ensures.same) c.self.invariant.store));
      labels = subst (λ h. AreHeld h (held c.reserve-4.new.self)) (sym view) (labels_same g (held c.self.inside.by_label) (held c.reserve-4.new.self) c.self.invariant.labels c.reserve-4.ensures.same);
    }
