use Rattle.std.proofs.Common.{rules, of_calls, refl}
use Rattle.std.proofs.lemmas.List.Sorted.{IsPartitionPoint-from_clause}
use Rattle.relation_rows.specs.declared.times.OneRow.{OneRow}
use Rattle.relation_rows.specs.Times.{begins_by, ends_before}
use Rattle.relation_rows.proofs.Meeting.{count_partitioned, left_partitioned, found_there, found_object, found_meets, found_order, found_all}
use Rattle.relation_rows.proofs.times_minus.meeting.Goals as goal

pub returns-clause-there : goal.returns-clause-there
returns-clause-there c =
    let point = IsPartitionPoint-from_clause (λ (s : OneRow). begins_by s c.args.row.now.object.0 c.args.row.now.span.to) _ _ c.count_leading-count.ensures.partitioned (count_partitioned c.args.rows.now c.requires c.args.row.now.object.0 c.args.row.now.span.from c.args.row.now.span.to) (λ a r f k. search (rules, of_calls)) in
    let split = IsPartitionPoint-from_clause (λ (s : OneRow). ends_before s c.args.row.now.object.0 c.args.row.now.span.from) _ _ c.count_leading-left.ensures.partitioned
    (left_partitioned c.args.rows.now c.requires c.args.row.now.object.0 c.args.row.now.span.from c.args.row.now.span.to c.count_leading-count.result c.count_leading-count.ensures.bound point) (λ a r f k. search (rules, of_calls)) in
    found_there c.args.rows.now c.requires c.args.row.now.object.0 c.args.row.now.span.from c.args.row.now.span.to c.count_leading-count.result c.count_leading-count.ensures.bound point c.count_leading-left.result c.count_leading-left.ensures.bound split

pub returns-clause-object : goal.returns-clause-object
returns-clause-object c =
    let point = IsPartitionPoint-from_clause (λ (s : OneRow). begins_by s c.args.row.now.object.0 c.args.row.now.span.to) _ _ c.count_leading-count.ensures.partitioned (count_partitioned c.args.rows.now c.requires c.args.row.now.object.0 c.args.row.now.span.from c.args.row.now.span.to) (λ a r f k. search (rules, of_calls)) in
    let split = IsPartitionPoint-from_clause (λ (s : OneRow). ends_before s c.args.row.now.object.0 c.args.row.now.span.from) _ _ c.count_leading-left.ensures.partitioned
    (left_partitioned c.args.rows.now c.requires c.args.row.now.object.0 c.args.row.now.span.from c.args.row.now.span.to c.count_leading-count.result c.count_leading-count.ensures.bound point) (λ a r f k. search (rules, of_calls)) in
    found_object c.args.rows.now c.requires c.args.row.now.object.0 c.args.row.now.span.from c.args.row.now.span.to c.count_leading-count.result c.count_leading-count.ensures.bound point c.count_leading-left.result c.count_leading-left.ensures.bound split

pub returns-clause-meets : goal.returns-clause-meets
returns-clause-meets c =
    let point = IsPartitionPoint-from_clause (λ (s : OneRow). begins_by s c.args.row.now.object.0 c.args.row.now.span.to) _ _ c.count_leading-count.ensures.partitioned (count_partitioned c.args.rows.now c.requires c.args.row.now.object.0 c.args.row.now.span.from c.args.row.now.span.to) (λ a r f k. search (rules, of_calls)) in
    let split = IsPartitionPoint-from_clause (λ (s : OneRow). ends_before s c.args.row.now.object.0 c.args.row.now.span.from) _ _ c.count_leading-left.ensures.partitioned
    (left_partitioned c.args.rows.now c.requires c.args.row.now.object.0 c.args.row.now.span.from c.args.row.now.span.to c.count_leading-count.result c.count_leading-count.ensures.bound point) (λ a r f k. search (rules, of_calls)) in
    found_meets c.args.rows.now c.requires c.args.row.now.object.0 c.args.row.now.span.from c.args.row.now.span.to c.count_leading-count.result c.count_leading-count.ensures.bound point c.count_leading-left.result c.count_leading-left.ensures.bound split c.args.row.now refl refl refl

pub returns-clause-order : goal.returns-clause-order
returns-clause-order c =
    let point = IsPartitionPoint-from_clause (λ (s : OneRow). begins_by s c.args.row.now.object.0 c.args.row.now.span.to) _ _ c.count_leading-count.ensures.partitioned (count_partitioned c.args.rows.now c.requires c.args.row.now.object.0 c.args.row.now.span.from c.args.row.now.span.to) (λ a r f k. search (rules, of_calls)) in
    let split = IsPartitionPoint-from_clause (λ (s : OneRow). ends_before s c.args.row.now.object.0 c.args.row.now.span.from) _ _ c.count_leading-left.ensures.partitioned
    (left_partitioned c.args.rows.now c.requires c.args.row.now.object.0 c.args.row.now.span.from c.args.row.now.span.to c.count_leading-count.result c.count_leading-count.ensures.bound point) (λ a r f k. search (rules, of_calls)) in
    found_order c.args.rows.now c.requires c.args.row.now.object.0 c.args.row.now.span.from c.args.row.now.span.to c.count_leading-count.result c.count_leading-count.ensures.bound point c.count_leading-left.result c.count_leading-left.ensures.bound split

pub returns-clause-all : goal.returns-clause-all
returns-clause-all c =
    let point = IsPartitionPoint-from_clause (λ (s : OneRow). begins_by s c.args.row.now.object.0 c.args.row.now.span.to) _ _ c.count_leading-count.ensures.partitioned (count_partitioned c.args.rows.now c.requires c.args.row.now.object.0 c.args.row.now.span.from c.args.row.now.span.to) (λ a r f k. search (rules, of_calls)) in
    let split = IsPartitionPoint-from_clause (λ (s : OneRow). ends_before s c.args.row.now.object.0 c.args.row.now.span.from) _ _ c.count_leading-left.ensures.partitioned
    (left_partitioned c.args.rows.now c.requires c.args.row.now.object.0 c.args.row.now.span.from c.args.row.now.span.to c.count_leading-count.result c.count_leading-count.ensures.bound point) (λ a r f k. search (rules, of_calls)) in
    found_all c.args.rows.now c.requires c.args.row.now.object.0 c.args.row.now.span.from c.args.row.now.span.to c.count_leading-count.result c.count_leading-count.ensures.bound point c.count_leading-left.result c.count_leading-left.ensures.bound split
