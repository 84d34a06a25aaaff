use Rattle.std.proofs.Common.{◌≡◌, ◌≢◌, List, subst, filter, rules}
use Rattle.std.proofs.lemmas.Fn.{filter_same}
use Rattle.relation_rows.specs.declared.rows.Row.{Row}
use Rattle.relation_rows.specs.Rows.{RowsHold, NormalRows}
use Rattle.relation_rows.proofs.LeadingBack.{leads_apart, apart_normal, apart_relation}
use Rattle.relation_rows.proofs.relations.Relation.apart.Goals as goal

pub invariant_of-result : goal.invariant_of-result
invariant_of-result c =
    let kept : c.retain.new.self.items ≡ filter leads_apart c.self.inside.rows.items = filter_same _ leads_apart _ (λ r b q k. search rules) _ _ c.retain.ensures.filtered in
    apart_relation c.self.inside.rows.items c.retain.new.self.items c.self.invariant kept

pub returns : goal.returns
returns c =
    let kept : c.retain.new.self.items ≡ filter leads_apart c.self.inside.rows.items = filter_same _ leads_apart _ (λ r b q k. search rules) _ _ c.retain.ensures.filtered in
    subst (λ (v : List Row). NormalRows (λ x y. RowsHold v x y × (x.object ≢ y.object)) c.retain.new.self.items) c.self.view_is
    (apart_normal c.self.inside.rows.items c.retain.new.self.items c.self.invariant kept)
