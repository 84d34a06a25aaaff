use Rattle.std.proofs.Common.{◌≡◌, ◌∙◌, ℕ, Some, ap, length, refl, sym, subst}
use Rattle.std.specs.Prelude.{slice_get, Contains}
use Rattle.std.proofs.lemmas.Option.{slice_get_read}
use Rattle.itpg_base.specs.Graphs.{Stands, HasEnd}
use Rattle.itpg_graph.specs.Changes.{without, dropped}
use Rattle.itpg_graph.specs.Kinds.{ends_of}
use Rattle.itpg_graph.specs.Links.{links_of}
use Rattle.itpg_graph.specs.LabelLists.{held}
use Rattle.itpg_graph.proofs.Labels.{gone_labels}
use Rattle.itpg_graph.proofs.Views.{is_within, dropped_view, dropped_node, dropped_edge, source_within, target_within}
use Rattle.itpg_graph.proofs.graph.Graph.remove.Goals as goal

pub remove-requires-in-Some : goal.remove-requires-in-Some
remove-requires-in-Some c =
    let items = c.self.inside.objects.items in
    let o = c.args.o.0 in
    let s = c.index_mut-object.result.now in
    let is = sym c.self.view_is in
    let stands = subst (λ g. Stands g o) is c.requires.stands in
    let at : slice_get items o ≡ Some s = slice_get_read items (length items) o s refl (is_within c.self.inside.opened items o _ stands) c.index_mut-object.ensures.value in
    let free = subst (λ g. (e : ℕ) → HasEnd g e o → ⊥) is c.requires.free in
    source_within c.self.inside.opened items o s at (dropped s) refl c.self.inside.numbers (links_of c.self.inside.out) (links_of c.self.inside.into) c.self.invariant.store c.in-Some.source c.in-Some.target (sym c.ends-ends.ensures ∙ ap ends_of c.in-Some.is) stands

pub remove-requires-in-Some-2 : goal.remove-requires-in-Some-2
remove-requires-in-Some-2 c =
    let items = c.self.inside.objects.items in
    let o = c.args.o.0 in
    let s = c.index_mut-object.result.now in
    let is = sym c.self.view_is in
    let stands = subst (λ g. Stands g o) is c.requires.stands in
    let at : slice_get items o ≡ Some s = slice_get_read items (length items) o s refl (is_within c.self.inside.opened items o _ stands) c.index_mut-object.ensures.value in
    let free = subst (λ g. (e : ℕ) → HasEnd g e o → ⊥) is c.requires.free in
    target_within c.self.inside.opened items o s at (dropped s) refl c.self.inside.numbers (links_of c.self.inside.out) (links_of c.self.inside.into) c.self.invariant.store c.in-Some.source c.in-Some.target (sym c.ends-ends.ensures ∙ ap ends_of c.in-Some.is) stands

pub invariant_of-self : goal.invariant_of-self
invariant_of-self c =
    let items = c.self.inside.objects.items in
    let o = c.args.o.0 in
    let s = c.index_mut-object.result.now in
    let is = sym c.self.view_is in
    let stands = subst (λ g. Stands g o) is c.requires.stands in
    let at : slice_get items o ≡ Some s = slice_get_read items (length items) o s refl (is_within c.self.inside.opened items o _ stands) c.index_mut-object.ensures.value in
    let free = subst (λ g. (e : ℕ) → HasEnd g e o → ⊥) is c.requires.free in
    let set = c.labels.ensures in
    record {
      store = dropped_edge c.self.inside.opened items o s at c.fall.new.self c.fall.ensures c.self.inside.numbers (links_of c.self.inside.out) (links_of c.self.inside.into) c.self.invariant.store c.in-Some.source c.in-Some.target (sym c.ends-ends.ensures ∙ ap ends_of c.in-Some.is) stands free (links_of c.remove-in-Some.new.self) (links_of c.remove-in-Some-2.new.self) c.remove-in-Some.ensures c.remove-in-Some-2.ensures;
      labels = gone_labels c.self.inside.opened items o s at c.fall.new.self c.fall.ensures (held c.self.inside.by_label) (held c.remove.new.self) c.self.invariant.labels (λ label has. c.remove.ensures.own label (subst (λ labels. Contains labels label) (sym set) has)) (λ label out. c.remove.ensures.others label (λ has. out (subst (λ labels. Contains labels label) set has)));
    }

pub invariant_of-self-in_default : goal.invariant_of-self-in_default
invariant_of-self-in_default c =
    let items = c.self.inside.objects.items in
    let o = c.args.o.0 in
    let s = c.index_mut-object.result.now in
    let is = sym c.self.view_is in
    let stands = subst (λ g. Stands g o) is c.requires.stands in
    let at : slice_get items o ≡ Some s = slice_get_read items (length items) o s refl (is_within c.self.inside.opened items o _ stands) c.index_mut-object.ensures.value in
    let free = subst (λ g. (e : ℕ) → HasEnd g e o → ⊥) is c.requires.free in
    let set = c.labels.ensures in
    record {
      store = dropped_node c.self.inside.opened items o s at c.fall.new.self c.fall.ensures c.self.inside.numbers (links_of c.self.inside.out) (links_of c.self.inside.into) c.self.invariant.store free (sym c.ends-ends.ensures ∙ ap ends_of c.in_default.is);
      labels = gone_labels c.self.inside.opened items o s at c.fall.new.self c.fall.ensures (held c.self.inside.by_label) (held c.remove.new.self) c.self.invariant.labels (λ label has. c.remove.ensures.own label (subst (λ labels. Contains labels label) (sym set) has)) (λ label out. c.remove.ensures.others label (λ has. out (subst (λ labels. Contains labels label) set has)));
    }

pub returns-in-Some : goal.returns-in-Some
returns-in-Some c =
    let items = c.self.inside.objects.items in
    let o = c.args.o.0 in
    let s = c.index_mut-object.result.now in
    let is = sym c.self.view_is in
    let stands = subst (λ g. Stands g o) is c.requires.stands in
    let at : slice_get items o ≡ Some s = slice_get_read items (length items) o s refl (is_within c.self.inside.opened items o _ stands) c.index_mut-object.ensures.value in
    let free = subst (λ g. (e : ℕ) → HasEnd g e o → ⊥) is c.requires.free in
    dropped_view c.self.inside.opened items o s at c.fall.new.self c.fall.ensures ∙ ap (λ g. without g o) c.self.view_is

pub returns-in_default : goal.returns-in_default
returns-in_default c =
    let items = c.self.inside.objects.items in
    let o = c.args.o.0 in
    let s = c.index_mut-object.result.now in
    let is = sym c.self.view_is in
    let stands = subst (λ g. Stands g o) is c.requires.stands in
    let at : slice_get items o ≡ Some s = slice_get_read items (length items) o s refl (is_within c.self.inside.opened items o _ stands) c.index_mut-object.ensures.value in
    let free = subst (λ g. (e : ℕ) → HasEnd g e o → ⊥) is c.requires.free in
    dropped_view c.self.inside.opened items o s at c.fall.new.self c.fall.ensures ∙ ap (λ g. without g o) c.self.view_is
