use Rattle.std.proofs.Common.{rules, of_calls}
use Rattle.std.proofs.lemmas.Fn.{always_returns_same}
use Rattle.relation_rows.specs.Relations.{Item}
use Rattle.relation_rows.proofs.Sorting.{sorted_items, first_not_less}
use Rattle.relation_rows.proofs.gather.sort_items.Goals as goal

pub returns-clause-order : goal.returns-clause-order
returns-clause-order c =
    sorted_items c.sort_unstable_by_key.new.self.items
    (λ k d le lt. first_not_less _ _ (c.sort_unstable_by_key.ensures.sorted (λ (i : Item). ((i.0, i.1), (i.2.a, i.2.c, record { 0 = i.2.b }))) (always_returns_same _ _ _ (λ a r q k. search (rules, of_calls))) k d le lt))
