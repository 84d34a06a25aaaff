use Rattle.std.proofs.Common.{ℕ, rules, of_calls}
use Rattle.std.proofs.lemmas.List.Sorted.{IsPartitionPoint-from_clause}
use Rattle.relation_rows.specs.declared.rows.Row.{Row}
use Rattle.relation_rows.proofs.SearchLemmas.{has_number}
use Rattle.relation_rows.proofs.search.count_of.Goals as goal

abbrev source : Row → ℕ
source r = r.source.0

pub returns-clause-point : goal.returns-clause-point
returns-clause-point c = IsPartitionPoint-from_clause (has_number source c.args.source.0) _ _ c.count_leading.ensures.partitioned c.requires (λ a r f k. search (rules, of_calls))
