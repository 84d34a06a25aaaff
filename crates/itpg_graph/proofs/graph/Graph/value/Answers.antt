use Rattle.std.proofs.Common.{◌≡◌, ◌↔◌, ℤ, List, Some, length, refl, sym, subst}
use Rattle.std.specs.Prelude.{slice_get, IsNone, IfSome}
use Rattle.std.proofs.lemmas.Option.{slice_get_read, IfSome_then}
use Rattle.itpg_base.specs.Words.{Word}
use Rattle.itpg_base.specs.Graphs.{Stands, Val, Property, PropertiesHave}
use Rattle.interval_set.specs.Runs.{AreRunsOf}
use Rattle.itpg_graph.specs.Stores.{graph_of}
use Rattle.itpg_graph.proofs.Kept.{val_at, at_val}
use Rattle.itpg_graph.proofs.Families.{few_runs}
use Rattle.itpg_graph.proofs.Views.{is_within}
use Rattle.itpg_graph.proofs.graph.Graph.value.Goals as goal

pub returns-clause-none : goal.returns-clause-none
returns-clause-none c =
    let items = c.self.inside.objects.items in
    let o = c.args.o.0 in
    let s = c.index.result.now in
    let is = sym c.self.view_is in
    let stands = subst (λ g. Stands g o) is c.requires in
    let at : slice_get items o ≡ Some s = slice_get_read items (length items) o s refl (is_within c.self.inside.opened items o _ stands) c.index.ensures in
    let g = graph_of c.self.inside.opened items in
    let name = c.args.prop.now in
    let none = subst (λ (p : List Property). IsNone c.get.result ↔ ((t : ℤ) (value : Word) → ¬ PropertiesHave p name t value)) c.as_record.ensures.properties c.get.ensures.none in
    subst (λ h. IsNone c.get.result ↔ ((t : ℤ) (value : Word) → ¬ Val h o name t value)) c.self.view_is
    (λ nothing t v has. none.0 nothing t v (val_at g o s at name t v has), λ never. none.1 (λ t v has. never t v (at_val g o s at name t v has)))

pub returns-clause-few : goal.returns-clause-few
returns-clause-few c =
    let items = c.self.inside.objects.items in
    let o = c.args.o.0 in
    let s = c.index.result.now in
    let is = sym c.self.view_is in
    let stands = subst (λ g. Stands g o) is c.requires in
    let at : slice_get items o ≡ Some s = slice_get_read items (length items) o s refl (is_within c.self.inside.opened items o _ stands) c.index.ensures in
    let kept = c.self.invariant.store.good.objects o s at in
    let some = subst (λ (p : List Property). IfSome c.get.result (λ values. AreRunsOf (PropertiesHave p c.args.prop.now) values.now)) c.as_record.ensures.properties c.get.ensures.some in
    IfSome_then c.get.result some (λ values runs. few_runs s.properties c.args.prop.now values.now kept.properties kept.differ runs)
