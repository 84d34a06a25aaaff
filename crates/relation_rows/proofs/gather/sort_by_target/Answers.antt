use Rattle.std.proofs.Common.{rules, of_calls}
use Rattle.std.proofs.lemmas.Fn.{always_returns_same}
use Rattle.relation_rows.specs.Relations.{Item}
use Rattle.relation_rows.proofs.Sorting.{sorted_items}
use Rattle.relation_rows.proofs.gather.sort_by_target.Goals as goal

pub returns-clause-order : goal.returns-clause-order
returns-clause-order c =
    sorted_items c.sort_unstable_by_key.new.self.items (c.sort_unstable_by_key.ensures.sorted (λ (i : Item). (i.0, i.1)) (always_returns_same _ _ _ (λ a r q k. search (rules, of_calls))))
