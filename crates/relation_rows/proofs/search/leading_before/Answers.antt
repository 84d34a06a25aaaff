use Rattle.std.proofs.Common.{Bool, sym, ◌∙◌, rules, of_calls}
use Rattle.std.proofs.lemmas.List.Sorted.{IsPartitionPoint-from_clause}
use Rattle.relation_rows.specs.declared.rows.Row.{Row}
use Rattle.relation_rows.specs.Searching.{comes_before}
use Rattle.relation_rows.proofs.Keys.{coming_partitioned}
use Rattle.relation_rows.proofs.SearchLemmas.{front_partitioned, point_before}
use Rattle.relation_rows.proofs.search.leading_before.Goals as goal

pub returns-then-not-comes_before_key-clause-point : goal.returns-then-not-comes_before_key-clause-point
returns-then-not-comes_before_key-clause-point c =
    let test : Row → Bool = λ (r : Row). comes_before r c.args.source.0 c.args.target.0 in
    let parted = coming_partitioned c.args.rows.now c.args.source.0 c.args.target.0 c.requires in
    let fails = sym c.comes_before_key.ensures ∙ c.if-not-comes_before_key.true in
    point_before test c.args.rows.now parted c.loop-near.near _ c.loop-near-test.true fails c.partition_point.result c.partition_point.ensures.bound
    (IsPartitionPoint-from_clause test _ _ c.partition_point.ensures.partitioned (front_partitioned test c.args.rows.now parted c.loop-near.near _ c.loop-near-test.true fails) (λ a r f k. search (rules, of_calls)))

pub returns-clause-point : goal.returns-clause-point
returns-clause-point c = IsPartitionPoint-from_clause (λ (r : Row). comes_before r c.args.source.0 c.args.target.0) _ _ c.partition_point-2.ensures.partitioned
    (coming_partitioned c.args.rows.now c.args.source.0 c.args.target.0 c.requires) (λ a r f k. search (rules, of_calls))
