use Rattle.std.proofs.Common.{◌≤◌, ◌∙◌, IfOk, List, length, subst}
use Rattle.itpg_base.specs.Lists.{Among}
use Rattle.relation_rows.specs.declared.rows.Row.{Row}
use Rattle.relation_rows.specs.declared.times.OneRow.{OneRow}
use Rattle.relation_rows.specs.Times.{Departs, AreTimes}
use Rattle.relation_rows.proofs.relations.Relation.sources.Goals as goal

pub times_of-requires : goal.times_of-requires
times_of-requires c = λ r i. (c.self.invariant).formed r (subst (λ (v : List Row). Among v r) c.deref.ensures.value i)

pub returns-clause-times : goal.returns-clause-times
returns-clause-times c = subst (λ (v : List Row). IfOk c.times_of.result (λ (runs : List OneRow). AreTimes (Departs v) runs)) (c.deref.ensures.value ∙ c.self.view_is) c.times_of.ensures.times

pub returns-clause-few : goal.returns-clause-few
returns-clause-few c = subst (λ (v : List Row). IfOk c.times_of.result (λ (runs : List OneRow). length runs ≤ length v)) (c.deref.ensures.value ∙ c.self.view_is) c.times_of.ensures.few
