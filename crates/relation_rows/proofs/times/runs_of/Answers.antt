use Rattle.std.proofs.Common.{List, sym, subst}
use Rattle.itpg_base.specs.Lists.{Among, Ordered}
use Rattle.relation_rows.specs.declared.times.OneRow.{OneRow}
use Rattle.relation_rows.specs.Times.{TimesHold, TimeUpTo, AreTimes, IsOneTime}
use Rattle.relation_rows.proofs.Runs.{times_permuted, one_time_of}
use Rattle.relation_rows.proofs.times.runs_of.Goals as goal

pub joined_all-requires-clause-order : goal.joined_all-requires-clause-order
joined_all-requires-clause-order c = subst (λ (v : List OneRow). Ordered TimeUpTo v) (sym c.deref.ensures.value) c.put_in_order.ensures.order

pub joined_all-requires-clause-spans : goal.joined_all-requires-clause-spans
joined_all-requires-clause-spans c = λ r i. c.requires r ((c.put_in_order.ensures.same r).0 (subst (λ (v : List OneRow). Among v r) c.deref.ensures.value i))

pub returns-clause-times : goal.returns-clause-times
returns-clause-times c =
    subst (AreTimes (TimesHold c.args.times.items)) (sym c.in_ok-shared.ensures)
    (times_permuted c.args.times.items c.put_in_order.new.times.items c.put_in_order.ensures.same c.in_ok-rows.rows.items
    (subst (λ (v : List OneRow). AreTimes (TimesHold v) c.in_ok-rows.rows.items) c.deref.ensures.value c.in_ok-rows.ensures.times))

pub invariant_of-result : goal.invariant_of-result
invariant_of-result c = subst IsOneTime (sym c.in_ok-shared.ensures) (one_time_of _ c.in_ok-rows.rows.items c.in_ok-rows.ensures.times)
