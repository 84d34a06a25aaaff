use Rattle.std.proofs.Common.{◌≡◌, Some, length, refl, sym, subst}
use Rattle.std.specs.Prelude.{slice_get, slice_set}
use Rattle.std.proofs.lemmas.Option.{slice_get_read}
use Rattle.itpg_base.specs.Graphs.{Graph, Stands}
use Rattle.itpg_graph.specs.Families.{FitClear}
use Rattle.itpg_graph.specs.Changes.{ClearsValue}
use Rattle.itpg_graph.specs.Links.{links_of}
use Rattle.itpg_graph.specs.LabelLists.{held}
use Rattle.itpg_graph.specs.Stores.{graph_of}
use Rattle.itpg_graph.proofs.Kept.{properties_shape}
use Rattle.itpg_graph.proofs.Labels.{labels_written}
use Rattle.itpg_graph.proofs.Views.{is_within, clears, clear_store}
use Rattle.itpg_graph.proofs.graph.Graph.clear_value.Goals as goal

pub invariant_of-self-2 : goal.invariant_of-self-2
invariant_of-self-2 c =
    let items = c.self.inside.objects.items in
    let o = c.args.o.0 in
    let s = c.index_mut-object.result.now in
    let is = sym c.self.view_is in
    let stands = subst (λ g. Stands g o) is c.requires.stands in
    let at : slice_get items o ≡ Some s = slice_get_read items (length items) o s refl (is_within c.self.inside.opened items o _ stands) c.index_mut-object.ensures.value in
    let clear = c.in_ok-clear_value.ensures.ok in
    let store = clear_store c.self.inside.opened items o s at c.args.s c.clear_value.new.self c.args.prop clear c.self.inside.numbers (links_of c.self.inside.out) (links_of c.self.inside.into) c.self.invariant.store stands
    (subst (λ g. FitClear g o c.args.prop c.args.s) is c.requires.room) in
    record { store = store; labels = labels_written c.self.inside.opened c.self.inside.objects.items o s c.clear_value.new.self (λ x. record x { properties = clear.properties }) (held c.self.inside.by_label) at clear.is (properties_shape clear.properties) c.self.invariant.labels }

pub returns-clause-ok : goal.returns-clause-ok
returns-clause-ok c =
    let items = c.self.inside.objects.items in
    let o = c.args.o.0 in
    let s = c.index_mut-object.result.now in
    let is = sym c.self.view_is in
    let stands = subst (λ g. Stands g o) is c.requires.stands in
    let at : slice_get items o ≡ Some s = slice_get_read items (length items) o s refl (is_within c.self.inside.opened items o _ stands) c.index_mut-object.ensures.value in
    let new : Graph = graph_of c.self.inside.opened (slice_set items o c.clear_value.new.self) in
    subst (λ g. ClearsValue g o c.args.prop c.args.s new) c.self.view_is (clears c.self.inside.opened items o s at c.args.s c.clear_value.new.self c.args.prop c.in_ok-clear_value.ensures.ok)
