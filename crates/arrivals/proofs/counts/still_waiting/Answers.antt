use Rattle.std.proofs.Common.{rules, of_calls, pos, ◌+ℤ◌}
use Rattle.std.proofs.lemmas.List.Sorted.{IsPartitionPoint-from_clause}
use Rattle.relation_rows.specs.declared.times.OneRow.{OneRow}
use Rattle.arrivals.specs.Sweeping.{begins_by}
use Rattle.arrivals.proofs.Rests.{rest_from, begun_partitioned}
use Rattle.arrivals.proofs.counts.still_waiting.Goals as goal

pub returns : goal.returns
returns c = rest_from (λ (r : OneRow). begins_by r c.args.last.now.span.to) c.args.rows.now c.partition_point-count.result c.partition_point-count.ensures.bound
    (IsPartitionPoint-from_clause (λ (r : OneRow). begins_by r c.args.last.now.span.to) _ _ c.partition_point-count.ensures.partitioned (begun_partitioned (c.args.last.now.span.to +ℤ pos 1) c.args.rows.now c.requires) (λ a r f k. search (rules, of_calls)))
