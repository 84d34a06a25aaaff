use Rattle.std.proofs.Common.{◌≡◌, ◌∙◌, List, sym, subst}
use Rattle.relation_rows.specs.declared.rows.Row.{Row}
use Rattle.relation_rows.specs.Rows.{RowsHold, NormalRows, IsRelation}
use Rattle.relation_rows.proofs.Appending.{source_normal, source_relation}
use Rattle.relation_rows.proofs.relations.Relation.from_source.Goals as goal

pub invariant_of-result : goal.invariant_of-result
invariant_of-result c =
    subst IsRelation (sym c.in_ok-rows.ensures.items)
    (source_relation c.deref.result.now c.args.source.0 c.rows_from.result.now c.rows_from.ensures.rows c.rows_from.ensures.order (subst IsRelation (sym c.deref.ensures.value) c.self.invariant))

pub returns : goal.returns
returns c =
    subst (λ (v : List Row). NormalRows (λ x y. RowsHold v x y × (x.object ≡ c.args.source.0)) c.in_ok-rows.rows.items) (c.deref.ensures.value ∙ c.self.view_is)
    (subst (λ (v : List Row). NormalRows (λ x y. RowsHold c.deref.result.now x y × (x.object ≡ c.args.source.0)) v) (sym c.in_ok-rows.ensures.items)
    (source_normal c.deref.result.now c.args.source.0 c.rows_from.result.now c.rows_from.ensures.rows c.rows_from.ensures.order (subst IsRelation (sym c.deref.ensures.value) c.self.invariant)))
