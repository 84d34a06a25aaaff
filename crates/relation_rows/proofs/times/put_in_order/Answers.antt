use Rattle.std.proofs.Common.{List, rules, subst}
use Rattle.std.proofs.lemmas.Fn.{always_returns_same}
use Rattle.itpg_base.specs.Lists.{Ordered}
use Rattle.itpg_base.proofs.Lists.{permutation_among, among_permutation}
use Rattle.relation_rows.specs.declared.times.OneRow.{OneRow}
use Rattle.relation_rows.specs.Times.{TimeUpTo}
use Rattle.relation_rows.proofs.Runs.{sorted_times}
use Rattle.relation_rows.proofs.times.put_in_order.Goals as goal

pub returns-then-are_in_order-clause-order : goal.returns-then-are_in_order-clause-order
returns-then-are_in_order-clause-order c = subst (λ (v : List OneRow). Ordered TimeUpTo v) c.deref.ensures.value (c.are_in_order.ensures c.if-are_in_order.true)

pub returns-clause-order : goal.returns-clause-order
returns-clause-order c = sorted_times c.sort_unstable_by_key.new.self.items (c.sort_unstable_by_key.ensures.sorted (λ (r : OneRow). (r.object, r.span.from)) (always_returns_same _ _ _ (λ a r q k. search rules)))

pub returns-clause-same : goal.returns-clause-same
returns-clause-same c = λ r. (permutation_among c.args.times.now.items c.sort_unstable_by_key.new.self.items c.sort_unstable_by_key.ensures.permutation r, among_permutation c.args.times.now.items c.sort_unstable_by_key.new.self.items c.sort_unstable_by_key.ensures.permutation r)
