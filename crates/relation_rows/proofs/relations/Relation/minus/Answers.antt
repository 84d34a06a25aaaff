use Rattle.std.proofs.Common.{◌∙◌, ◌↔◌, List, sym, subst}
use Rattle.itpg_base.specs.Points.{Point}
use Rattle.itpg_base.specs.Lists.{Among, Ordered}
use Rattle.relation_rows.specs.declared.rows.Row.{Row}
use Rattle.relation_rows.specs.Rows.{RowBefore, IsRelation, NormalRows}
use Rattle.relation_rows.specs.Relations.{Item, ItemsHold, OnlyFirstHolds}
use Rattle.std.proofs.lemmas.Slice.Eq.{slice_eq-Decides}
use Rattle.relation_rows.proofs.Alike.{rows_alike}
use Rattle.relation_rows.proofs.Covering.{items_alone}
use Rattle.relation_rows.proofs.Equal.{row_decides}
use Rattle.relation_rows.proofs.StrikeLemmas.{none_left}
use Rattle.relation_rows.proofs.relations.Relation.minus.Goals as goal

pub struck-requires : goal.struck-requires
struck-requires c = record {
  first = subst IsRelation (sym c.deref.ensures.value) c.self.invariant;
  second = subst (λ (v : List Row). Ordered RowBefore v) (sym c.deref-2.ensures.value) (c.other.invariant).normal.order;
}

pub only_in_first-requires : goal.only_in_first-requires
only_in_first-requires c =
    let order = c.in_ok-kept.ensures.order in
    let cuts_order = c.in_ok-kept.ensures.cuts_order in
    let there = c.in_ok-kept.ensures.there in
    let cuts_there = c.in_ok-kept.ensures.cuts_there in
    record {
      order = subst (λ (v : List Row). Ordered RowBefore v) (sym c.deref-3.ensures.value) order;
      second = subst (λ (v : List Row). Ordered RowBefore v) (sym c.deref-4.ensures.value) cuts_order;
      rows = λ r i. (c.self.invariant).formed r (subst (λ (v : List Row). Among v r) c.deref.ensures.value (there r (subst (λ (v : List Row). Among v r) c.deref-3.ensures.value i)));
      cuts = λ r i. (c.other.invariant).formed r (subst (λ (v : List Row). Among v r) c.deref-2.ensures.value (cuts_there r (subst (λ (v : List Row). Among v r) c.deref-4.ensures.value i)));
    }

pub returns : goal.returns
returns c =
    let same = c.in_ok-kept.ensures.same in
    let left : (x y : Point) → ItemsHold c.in_ok-items.items.items x y ↔ OnlyFirstHolds c.in_ok-kept.kept.items c.in_ok-kept.cuts.items x y =
    λ x y. subst (λ (v : List Row). ItemsHold c.in_ok-items.items.items x y ↔ OnlyFirstHolds v c.in_ok-kept.cuts.items x y) c.deref-3.ensures.value
    (subst (λ (v : List Row). ItemsHold c.in_ok-items.items.items x y ↔ OnlyFirstHolds c.deref-3.result.now v x y) c.deref-4.ensures.value (c.in_ok-items.ensures x y)) in
    subst (λ (v : List Row). NormalRows (OnlyFirstHolds v c.args.other.now) c.in_ok-rows.rows) (c.deref.ensures.value ∙ c.self.view_is)
    (subst (λ (v : List Row). NormalRows (OnlyFirstHolds c.deref.result.now v) c.in_ok-rows.rows) (c.deref-2.ensures.value ∙ c.other.view_is)
    (rows_alike (ItemsHold c.in_ok-items.items.items) (OnlyFirstHolds c.deref.result.now c.deref-2.result.now)
    (λ x y h. (same x y).0 ((left x y).0 h)) (λ x y h. (left x y).1 ((same x y).1 h)) c.in_ok-rows.rows
    (subst (λ (v : List Item). NormalRows (ItemsHold v) c.in_ok-rows.rows) c.deref-5.ensures.value (items_alone c.deref-5.result.now c.in_ok-rows.rows c.in_ok-rows.ensures))))

pub returns-then-eq : goal.returns-then-eq
returns-then-eq c =
    let same = (slice_eq-Decides row_decides c.self.inside.rows.items c.other.inside.rows.items c.eq.result c.eq.ensures).0 c.if-eq.true in
    subst (λ (v : List Row). NormalRows (OnlyFirstHolds c.args.self.now c.args.other.now) v) (sym c.empty.ensures)
    (none_left c.args.self.now c.args.other.now (sym c.self.view_is ∙ same ∙ c.other.view_is))
