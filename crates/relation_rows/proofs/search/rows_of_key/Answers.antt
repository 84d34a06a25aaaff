use Rattle.std.proofs.Common.{rules, of_calls, refl}
use Rattle.std.proofs.lemmas.List.Sorted.{IsPartitionPoint-from_clause}
use Rattle.relation_rows.specs.declared.rows.Row.{Row}
use Rattle.relation_rows.specs.Searching.{comes_before, has_key}
use Rattle.relation_rows.proofs.Keys.{coming_partitioned, key_partitioned, key_rows, key_order}
use Rattle.relation_rows.proofs.search.rows_of_key.Goals as goal

pub returns-clause-rows : goal.returns-clause-rows
returns-clause-rows c =
    let rows = c.args.rows.now in
    let o = c.args.source.0 in
    let p = c.args.target.0 in
    let begin = IsPartitionPoint-from_clause (λ (r : Row). comes_before r c.args.source.0 c.args.target.0) _ _ c.partition_point-begin.ensures.partitioned (coming_partitioned c.args.rows.now c.args.source.0 c.args.target.0 c.requires) (λ a r f k. search (rules, of_calls)) in
    let count = IsPartitionPoint-from_clause (λ (r : Row). has_key r c.args.source.0 c.args.target.0) _ _ c.count_leading-count.ensures.partitioned
    (key_partitioned c.args.rows.now c.args.source.0 c.args.target.0 c.requires c.partition_point-begin.result c.partition_point-begin.ensures.bound begin _ refl) (λ a r f k. search (rules, of_calls)) in
    key_rows c.args.rows.now c.args.source.0 c.args.target.0 c.requires c.partition_point-begin.result c.partition_point-begin.ensures.bound begin _ refl c.count_leading-count.result c.count_leading-count.ensures.bound count

pub returns-clause-order : goal.returns-clause-order
returns-clause-order c = key_order c.args.rows.now c.partition_point-begin.result c.count_leading-count.result c.requires
