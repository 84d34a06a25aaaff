use Rattle.std.proofs.Common.{◌<◌, length, sym, ◌∙◌, rules, of_calls, arith}
use Rattle.std.proofs.lemmas.Bool.Decides.{Decides-ltb}
use Rattle.std.proofs.lemmas.List.Sorted.{IsPartitionPoint-from_clause}
use Rattle.relation_rows.specs.Relations.{Item}
use Rattle.relation_rows.specs.Gathering.{have_one_key}
use Rattle.relation_rows.proofs.Keys.{one_key_partitioned, count_some, count_same, count_later, alone_point}
use Rattle.relation_rows.proofs.gather.first_count.Goals as goal

pub returns-clause-some : goal.returns-clause-some
returns-clause-some c = count_some c.args.items.now c.args.first.now c.requires.order c.requires.first c.count_leading.result c.count_leading.ensures.bound
    (IsPartitionPoint-from_clause (λ (i : Item). have_one_key i c.args.first.now) _ _ c.count_leading.ensures.partitioned (one_key_partitioned c.args.items.now c.args.first.now c.requires.order c.requires.first) (λ a r f k. search (rules, of_calls)))

pub returns-clause-same : goal.returns-clause-same
returns-clause-same c = count_same c.args.items.now c.args.first.now c.requires.order c.requires.first c.count_leading.result c.count_leading.ensures.bound
    (IsPartitionPoint-from_clause (λ (i : Item). have_one_key i c.args.first.now) _ _ c.count_leading.ensures.partitioned (one_key_partitioned c.args.items.now c.args.first.now c.requires.order c.requires.first) (λ a r f k. search (rules, of_calls)))

pub returns-clause-later : goal.returns-clause-later
returns-clause-later c = count_later c.args.items.now c.args.first.now c.requires.order c.requires.first c.count_leading.result c.count_leading.ensures.bound
    (IsPartitionPoint-from_clause (λ (i : Item). have_one_key i c.args.first.now) _ _ c.count_leading.ensures.partitioned (one_key_partitioned c.args.items.now c.args.first.now c.requires.order c.requires.first) (λ a r f k. search (rules, of_calls)))

pub returns-then-not-are_of_one_key-clause-same : goal.returns-then-not-are_of_one_key-clause-same
returns-then-not-are_of_one_key-clause-same c =
    let read = c.in-Some.ensures.lookup in
    let within : 1 < length c.args.items.now = grind (arith, Decides-ltb) in
    count_same c.args.items.now c.args.first.now c.requires.order c.requires.first 1 (omega arith)
    (alone_point c.args.items.now c.args.first.now c.in-Some.second.now c.requires.order c.requires.first within read.1 (sym c.are_of_one_key.ensures ∙ c.if-not-are_of_one_key.true))

pub returns-then-not-are_of_one_key-clause-later : goal.returns-then-not-are_of_one_key-clause-later
returns-then-not-are_of_one_key-clause-later c =
    let read = c.in-Some.ensures.lookup in
    let within : 1 < length c.args.items.now = grind (arith, Decides-ltb) in
    count_later c.args.items.now c.args.first.now c.requires.order c.requires.first 1 (omega arith)
    (alone_point c.args.items.now c.args.first.now c.in-Some.second.now c.requires.order c.requires.first within read.1 (sym c.are_of_one_key.ensures ∙ c.if-not-are_of_one_key.true))
