use Rattle.std.proofs.Common.{List, rules, subst}
use Rattle.std.specs.List.Sorted.{IsPermutation}
use Rattle.std.proofs.lemmas.Fn.{always_returns_same}
use Rattle.itpg_base.specs.Lists.{Ordered}
use Rattle.relation_rows.specs.declared.rows.Row.{Row}
use Rattle.relation_rows.specs.Timetables.{DepartsUpTo}
use Rattle.relation_rows.proofs.Legs.{sorted_rows, found_rows}
use Rattle.relation_rows.proofs.timetable.by_source.Goals as goal

pub returns-clause-order : goal.returns-clause-order
returns-clause-order c = sorted_rows _ (c.in_ok-sort_by_key.ensures.sorted (λ (r : Row). (r.source, r.band.from)) (always_returns_same _ _ _ (λ a r q k. search rules)))

pub returns-clause-same : goal.returns-clause-same
returns-clause-same c = subst (λ (v : List Row). IsPermutation v c.sort_by_key.new.self.items) c.in_ok-sorted.ensures.items c.sort_by_key.ensures.permutation

pub returns-then-is_sorted_by_key-clause-order : goal.returns-then-is_sorted_by_key-clause-order
returns-then-is_sorted_by_key-clause-order c =
    let up = c.if-is_sorted_by_key.ensures.cases (λ (r : Row). (r.source, r.band.from)) (always_returns_same _ _ _ (λ a r q k. search rules)) in
    subst (λ (v : List Row). Ordered DepartsUpTo v) c.deref.ensures.value (found_rows c.deref.result.now up)
