use Rattle.std.proofs.Common.{◌∙◌, List, sym, subst}
use Rattle.relation_rows.specs.declared.rows.Row.{Row}
use Rattle.relation_rows.specs.Answers.{Gives}
use Rattle.relation_rows.specs.Rows.{IsRelation}
use Rattle.relation_rows.specs.Relations.{EitherHolds}
use Rattle.relation_rows.proofs.relations.Relation.union.Goals as goal

pub united-requires : goal.united-requires
united-requires c = record { first = subst IsRelation (sym c.deref.ensures.value) c.self.invariant; second = subst IsRelation (sym c.deref-2.ensures.value) c.other.invariant }

pub returns : goal.returns
returns c =
    subst (λ (v : List Row). Gives c.united.result (EitherHolds v c.args.other.now) c.args.max_rows) (c.deref.ensures.value ∙ c.self.view_is)
    (subst (λ (v : List Row). Gives c.united.result (EitherHolds c.deref.result.now v) c.args.max_rows) (c.deref-2.ensures.value ∙ c.other.view_is) c.united.ensures)
