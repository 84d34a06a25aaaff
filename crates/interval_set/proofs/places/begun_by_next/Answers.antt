use Rattle.std.proofs.Common.{rules, of_calls, int_lt, ◌+ℤ◌, pos, ◌<ℤ◌, ◌≤ℤ◌, not, Bool, arith}
use Rattle.std.proofs.lemmas.Int.{ints}
use Rattle.std.proofs.lemmas.List.Sorted.{IsPartitionPoint-from_clause}
use Rattle.itpg_base.specs.Graphs.{Valued}
use Rattle.interval_set.proofs.Rising.{rises_mapped}
use Rattle.interval_set.proofs.Searched.{passed, failed}
use Rattle.interval_set.proofs.places.begun_by_next.Goals as goal

pub returns-clause-near : goal.returns-clause-near
returns-clause-near g c =
    let test : Valued → Bool = λ r. not (int_lt (c.args.t +ℤ pos 1) r.span.from) in
    let point = IsPartitionPoint-from_clause (λ x. test (g.T.Spanned.as_run x)) _ _ c.partition_point.ensures.partitioned
    (λ i j d le lt up. let r = rises_mapped g.T.Spanned.as_run c.args.items.now i j d c.requires le lt in grind (arith, ints)) (λ a r f k. search (rules, of_calls)) in
    passed g.T.Spanned.as_run test _ _ c.partition_point.ensures.bound point (λ r. r.span.from ≤ℤ (c.args.t +ℤ pos 1)) (λ x h. grind (arith, ints))

pub returns-clause-apart : goal.returns-clause-apart
returns-clause-apart g c =
    let test : Valued → Bool = λ r. not (int_lt (c.args.t +ℤ pos 1) r.span.from) in
    let point = IsPartitionPoint-from_clause (λ x. test (g.T.Spanned.as_run x)) _ _ c.partition_point.ensures.partitioned
    (λ i j d le lt up. let r = rises_mapped g.T.Spanned.as_run c.args.items.now i j d c.requires le lt in grind (arith, ints)) (λ a r f k. search (rules, of_calls)) in
    failed g.T.Spanned.as_run test _ _ c.partition_point.ensures.bound point (λ r. (c.args.t +ℤ pos 1) <ℤ r.span.from) (λ x h. grind (arith, ints))
