use Rattle.std.proofs.Common.{◌<◌, length, sym, ◌∙◌, rules, of_calls, arith}
use Rattle.std.proofs.lemmas.Bool.Decides.{Decides-ltb}
use Rattle.std.proofs.lemmas.List.Sorted.{IsPartitionPoint-from_clause}
use Rattle.relation_rows.proofs.Sources.{has_source, source_partitioned, source_some, source_same, source_later, alone_point}
use Rattle.relation_rows.proofs.compose.source_count.Goals as goal

pub returns-clause-some : goal.returns-clause-some
returns-clause-some c = source_some c.args.rows.now c.args.first.now c.requires.order c.requires.first c.count_leading.result c.count_leading.ensures.bound
    (IsPartitionPoint-from_clause (has_source c.args.first.now) _ _ c.count_leading.ensures.partitioned (source_partitioned c.args.rows.now c.args.first.now c.requires.order c.requires.first) (λ a r f k. search (rules, of_calls)))

pub returns-clause-same : goal.returns-clause-same
returns-clause-same c = source_same c.args.rows.now c.args.first.now c.requires.order c.requires.first c.count_leading.result c.count_leading.ensures.bound
    (IsPartitionPoint-from_clause (has_source c.args.first.now) _ _ c.count_leading.ensures.partitioned (source_partitioned c.args.rows.now c.args.first.now c.requires.order c.requires.first) (λ a r f k. search (rules, of_calls)))

pub returns-clause-later : goal.returns-clause-later
returns-clause-later c = source_later c.args.rows.now c.args.first.now c.requires.order c.requires.first c.count_leading.result c.count_leading.ensures.bound
    (IsPartitionPoint-from_clause (has_source c.args.first.now) _ _ c.count_leading.ensures.partitioned (source_partitioned c.args.rows.now c.args.first.now c.requires.order c.requires.first) (λ a r f k. search (rules, of_calls)))

pub returns-then-not-have_one_source-clause-same : goal.returns-then-not-have_one_source-clause-same
returns-then-not-have_one_source-clause-same c =
    let read = c.in-Some.ensures.lookup in
    let within : 1 < length c.args.rows.now = grind (arith, Decides-ltb) in
    source_same c.args.rows.now c.args.first.now c.requires.order c.requires.first 1 (omega arith)
    (alone_point c.args.rows.now c.args.first.now c.requires.order c.requires.first c.in-Some.second.now within read.1 (sym c.have_one_source.ensures ∙ c.if-not-have_one_source.true))

pub returns-then-not-have_one_source-clause-later : goal.returns-then-not-have_one_source-clause-later
returns-then-not-have_one_source-clause-later c =
    let read = c.in-Some.ensures.lookup in
    let within : 1 < length c.args.rows.now = grind (arith, Decides-ltb) in
    source_later c.args.rows.now c.args.first.now c.requires.order c.requires.first 1 (omega arith)
    (alone_point c.args.rows.now c.args.first.now c.requires.order c.requires.first c.in-Some.second.now within read.1 (sym c.have_one_source.ensures ∙ c.if-not-have_one_source.true))
