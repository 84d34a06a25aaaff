use Rattle.std.proofs.Common.{ℕ, rules, of_calls, arith}
use Rattle.std.proofs.lemmas.List.Sorted.{IsPartitionPoint-from_clause}
use Rattle.relation_rows.specs.declared.rows.Row.{Row}
use Rattle.relation_rows.specs.Rows.{RowBefore}
use Rattle.relation_rows.proofs.Sources.{source_up}
use Rattle.relation_rows.proofs.SearchLemmas.{has_less, less_partitioned, end_is_point}
use Rattle.relation_rows.proofs.search.count_before.Goals as goal

abbrev source : Row → ℕ
source r = r.source.0

pub returns-clause-point : goal.returns-clause-point
returns-clause-point c = IsPartitionPoint-from_clause (has_less source c.args.source.0) _ _ c.partition_point.ensures.partitioned
    (less_partitioned source c.args.source.0 RowBefore source_up c.args.rows.now c.requires) (λ a r f k. search (rules, of_calls))

pub returns-then-rows-count-clause-point : goal.returns-then-rows-count-clause-point
returns-then-rows-count-clause-point c = end_is_point source c.args.source.0 RowBefore source_up c.args.rows.now c.requires _ _ (omega arith) (omega arith) c.if-rows-count.true
