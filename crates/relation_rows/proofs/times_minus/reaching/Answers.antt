use Rattle.std.proofs.Common.{List, rules, of_calls, sym, subst}
use Rattle.std.proofs.lemmas.List.Sorted.{IsPartitionPoint-from_clause}
use Rattle.itpg_base.specs.Lists.{Among}
use Rattle.itpg_base.proofs.Lists.{take_rest}
use Rattle.relation_rows.specs.declared.times.OneRow.{OneRow}
use Rattle.relation_rows.specs.Times.{IsOneTime, ends_before}
use Rattle.relation_rows.proofs.Meeting.{rising, ends_partitioned}
use Rattle.relation_rows.proofs.CutRows.{passed_there, passed_order, passed_kept}
use Rattle.relation_rows.proofs.times_minus.reaching.Goals as goal

pub returns-clause-order : goal.returns-clause-order
returns-clause-order c =
    let point = IsPartitionPoint-from_clause (λ (s : OneRow). ends_before s c.args.row.now.object.0 c.args.row.now.span.from) _ _ c.count_leading-passed.ensures.partitioned
    (ends_partitioned c.args.cuts.now (rising c.args.cuts.now c.requires) c.args.row.now.object.0 c.args.row.now.span.from) (λ a r f k. search (rules, of_calls)) in
    subst IsOneTime (sym (take_rest c.args.cuts.now c.count_leading-passed.result)) (passed_order c.args.cuts.now c.requires c.args.row.now c.count_leading-passed.result c.count_leading-passed.ensures.bound point)

pub returns-clause-there : goal.returns-clause-there
returns-clause-there c =
    let point = IsPartitionPoint-from_clause (λ (s : OneRow). ends_before s c.args.row.now.object.0 c.args.row.now.span.from) _ _ c.count_leading-passed.ensures.partitioned
    (ends_partitioned c.args.cuts.now (rising c.args.cuts.now c.requires) c.args.row.now.object.0 c.args.row.now.span.from) (λ a r f k. search (rules, of_calls)) in
    λ s a. passed_there c.args.cuts.now c.requires c.args.row.now c.count_leading-passed.result c.count_leading-passed.ensures.bound point s (subst (λ (v : List OneRow). Among v s) (take_rest c.args.cuts.now c.count_leading-passed.result) a)

pub returns-clause-kept : goal.returns-clause-kept
returns-clause-kept c =
    let point = IsPartitionPoint-from_clause (λ (s : OneRow). ends_before s c.args.row.now.object.0 c.args.row.now.span.from) _ _ c.count_leading-passed.ensures.partitioned
    (ends_partitioned c.args.cuts.now (rising c.args.cuts.now c.requires) c.args.row.now.object.0 c.args.row.now.span.from) (λ a r f k. search (rules, of_calls)) in
    λ s a k. subst (λ (v : List OneRow). Among v s) (sym (take_rest c.args.cuts.now c.count_leading-passed.result)) (passed_kept c.args.cuts.now c.requires c.args.row.now c.count_leading-passed.result c.count_leading-passed.ensures.bound point s a k)
