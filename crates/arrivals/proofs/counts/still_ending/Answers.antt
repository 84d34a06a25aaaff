use Rattle.std.proofs.Common.{rules, of_calls}
use Rattle.std.proofs.lemmas.List.Sorted.{IsPartitionPoint-from_clause}
use Rattle.relation_rows.specs.declared.times.OneRow.{OneRow}
use Rattle.arrivals.specs.Sweeping.{ends_by}
use Rattle.arrivals.proofs.Rests.{rest_from, ended_partitioned}
use Rattle.arrivals.proofs.counts.still_ending.Goals as goal

pub returns : goal.returns
returns c = rest_from (λ (r : OneRow). ends_by r c.args.last.now.span.to) c.args.rows.now c.partition_point-count.result c.partition_point-count.ensures.bound
    (IsPartitionPoint-from_clause (λ (r : OneRow). ends_by r c.args.last.now.span.to) _ _ c.partition_point-count.ensures.partitioned (ended_partitioned c.args.last.now.span.to c.args.rows.now c.requires) (λ a r f k. search (rules, of_calls)))
