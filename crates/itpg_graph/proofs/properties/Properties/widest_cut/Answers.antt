use Rattle.std.proofs.Common.{◌≡◌, ◌∙◌, ◌+◌, ℕ, List, Some, ap, length, take, max, refl, sym, subst, rules}
use Rattle.std.specs.Prelude.{slice_get}
use Rattle.std.proofs.lemmas.Option.{slice_get_read}
use Rattle.itpg_base.specs.Graphs.{Property}
use Rattle.itpg_graph.specs.Families.{IsOrderly}
use Rattle.itpg_graph.specs.Tables.{IsWidest}
use Rattle.itpg_graph.proofs.Cutting.{next_front, next_before, next_runs, widest_none, widest_more}
use Rattle.itpg_graph.proofs.properties.Properties.widest_cut.Goals as goal

pub loop-property-init : goal.loop-property-init
loop-property-init c = widest_none c.args.s

pub loop-property-preserved : goal.loop-property-preserved
loop-property-preserved c =
    let items = c.deref-property-items.result.now in
    let i = c.loop-property.property-index in
    let p : Property = record { name = c.property.inside.name; runs = c.property.inside.values } in
    let at : slice_get items i ≡ Some p = slice_get_read items (length items) i c.property-item.result refl c.loop-property-test.true c.property-item.is ∙ ap Some (sym c.property.view_is) in
    let orderly : IsOrderly items = subst IsOrderly (sym c.deref-property-items.ensures.value) c.self.invariant in
    let is : c.max-widest.result ≡ max c.count_clear.result c.loop-property.widest = search rules in
    subst (λ (n : ℕ). IsWidest (take (i + 1) items) c.args.s n) (sym is) (subst (λ (xs : List Property). IsWidest xs c.args.s (max c.count_clear.result c.loop-property.widest)) (sym (next_front items i p at orderly))
    (widest_more c.args.s (take i items) p c.loop-property.widest c.count_clear.result (next_before items i p at orderly) (next_runs items i p at orderly) c.count_clear.ensures c.loop-property.invariant))
