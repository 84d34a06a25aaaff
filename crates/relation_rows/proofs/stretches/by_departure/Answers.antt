use Rattle.std.proofs.Common.{List, rules, subst}
use Rattle.std.specs.List.Sorted.{IsPermutation}
use Rattle.std.proofs.lemmas.Fn.{always_returns_same}
use Rattle.itpg_base.proofs.Lists.{permutation_among, among_permutation}
use Rattle.relation_rows.specs.declared.rows.Row.{Row}
use Rattle.relation_rows.proofs.Counting.{sorted_departures, found_departures}
use Rattle.relation_rows.proofs.stretches.by_departure.Goals as goal

pub returns-clause-order : goal.returns-clause-order
returns-clause-order c = sorted_departures _ (c.in_ok-sort_by_key.ensures.sorted (λ (r : Row). r.band.from) (always_returns_same _ _ _ (λ a r q k. search rules)))

pub returns-clause-same : goal.returns-clause-same
returns-clause-same c =
    let p = subst (λ (v : List Row). IsPermutation v c.sort_by_key.new.self.items) c.in_ok-sorted.ensures.items c.sort_by_key.ensures.permutation in
    λ r. (permutation_among c.args.rows.now c.sort_by_key.new.self.items p r, among_permutation c.args.rows.now c.sort_by_key.new.self.items p r)

pub returns-then-is_sorted_by_key-clause-kept : goal.returns-then-is_sorted_by_key-clause-kept
returns-then-is_sorted_by_key-clause-kept c =
    let up = c.if-is_sorted_by_key.ensures.cases (λ (r : Row). r.band.from) (always_returns_same _ _ _ (λ a r q k. search rules)) in
    found_departures c.args.rows.now up
