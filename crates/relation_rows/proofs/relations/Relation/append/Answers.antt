use Rattle.std.proofs.Common.{◌<◌, ◌∙◌, List, sym, subst}
use Rattle.itpg_base.specs.Lists.{Among}
use Rattle.relation_rows.specs.declared.rows.Row.{Row}
use Rattle.relation_rows.specs.Rows.{IsRelation}
use Rattle.relation_rows.proofs.Appending.{either_relation}
use Rattle.relation_rows.proofs.relations.Relation.append.Goals as goal

pub invariant_of-self : goal.invariant_of-self
invariant_of-self c =
    let self = c.self.inside.rows.items in
    let later = c.deref.result.now in
    let apart : (r : Row) → (s : Row) → Among self r → Among later s → r.source.0 < s.source.0 =
    λ r s a b. c.requires r s (subst (λ (v : List Row). Among v r) c.self.view_is a) (subst (λ (v : List Row). Among v s) (c.deref.ensures.value ∙ c.later.view_is) b) in
    either_relation self later c.self.invariant (subst IsRelation (sym c.deref.ensures.value) c.later.invariant) apart _ c.extend_from_slice.new.self.items c.extend_from_slice.ensures.items
