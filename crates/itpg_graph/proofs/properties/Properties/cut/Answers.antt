use Rattle.std.proofs.Common.{◌≡◌, ◌≢◌, ◌∙◌, ◌++◌, ◌∷◌, [], List, Some, ap, length, take, refl, sym, subst}
use Rattle.std.specs.Prelude.{slice_get}
use Rattle.std.proofs.lemmas.Option.{slice_get_read}
use Rattle.itpg_base.specs.Words.{Word}
use Rattle.itpg_base.specs.Graphs.{Property, Valued}
use Rattle.interval_set.specs.Runs.{AreRunsOf, HasCleared}
use Rattle.itpg_graph.specs.Families.{IsOrderly, AreProperties}
use Rattle.itpg_graph.proofs.Lists.{full_of}
use Rattle.itpg_graph.proofs.Cutting.{Outside, next_front, next_before, cut_gone, cut_kept}
use Rattle.itpg_graph.proofs.properties.Properties.cut.Goals as goal
use Rattle.itpg_graph.proofs.properties.Properties.cut.Goals.{then-not-is_empty+in_ok-name+in_ok-push, else-not-is_empty+in-Short-1, else-not-is_empty+in-Any-1}

pub loop-property-preserved : goal.loop-property-preserved
loop-property-preserved c =
    let items = c.deref-property-items.result.now in
    let i = c.loop-property.property-index in
    let p : Property = record { name = c.property.inside.name; runs = c.property.inside.values } in
    let at : slice_get items i ≡ Some p = slice_get_read items (length items) i c.property-item.result refl c.loop-property-test.true c.property-item.is ∙ ap Some (sym c.property.view_is) in
    let orderly : IsOrderly items = subst IsOrderly (sym c.deref-property-items.ensures.value) c.self.invariant in
    let runs = c.clear.new.self in
    let cleared : AreRunsOf (HasCleared p.runs c.args.s) runs = subst (λ (xs : List Valued). AreRunsOf (HasCleared xs c.args.s) runs) c.in_ok-values.ensures c.in_ok-clear.ensures.ok in
    let gone = λ (none : runs ≡ []) (is : c.if-not-is_empty.list.items ≡ c.loop-property.list.items).
    subst (AreProperties (Outside c.args.s (take i items ++ p ∷ []))) (sym is) (cut_gone c.args.s (take i items) c.loop-property.list.items p runs (next_before items i p at orderly) cleared c.loop-property.invariant none) in
    subst (λ (xs : List Property). AreProperties (Outside c.args.s xs) c.if-not-is_empty.list.items) (sym (next_front items i p at orderly))
    (elim c.if-not-is_empty.branch [
      | then-not-is_empty+in_ok-name+in_ok-push w ↦
          let some : runs ≢ [] = full_of runs c.is_empty.result c.is_empty.ensures w.if-not-is_empty.true in
          let is : c.if-not-is_empty.list.items ≡ c.loop-property.list.items ++ record p { runs = runs } ∷ [] = ap (λ v. v.items) w.list-is ∙ w.in_ok-push.ensures.items ∙ ap (λ (name : Word). c.loop-property.list.items ++ record { name = name; runs = runs } ∷ []) (w.in_ok-name.ensures) in
          subst (AreProperties (Outside c.args.s (take i items ++ p ∷ []))) (sym is) (cut_kept c.args.s (take i items) c.loop-property.list.items p runs (next_before items i p at orderly) cleared c.loop-property.invariant some)
      | else-not-is_empty+in-Short-1 w ↦ gone (c.is_empty.ensures.0 w.if-not-is_empty.false) (ap (λ v. v.items) w.list-is)
      | else-not-is_empty+in-Any-1 w ↦ gone (c.is_empty.ensures.0 w.if-not-is_empty.false) (ap (λ v. v.items) w.list-is)
    ])
