use Rattle.std.proofs.Common.{rules, of_calls}
use Rattle.std.proofs.lemmas.Fn.{always_returns_same}
use Rattle.itpg_base.proofs.Lists.{among_permutation, permutation_among}
use Rattle.relation_rows.specs.declared.rows.Row.{Row}
use Rattle.relation_rows.proofs.Settling.{sorted_ways}
use Rattle.relation_rows.proofs.direct.sort_rows.Goals as goal

pub returns-clause-order : goal.returns-clause-order
returns-clause-order c = sorted_ways _ (c.in_ok-sort_by_key.ensures.sorted (λ (r : Row). ((r.source, r.target), r.band.from)) (always_returns_same _ _ _ (λ a r q k. search (rules, of_calls))))

pub returns-clause-same : goal.returns-clause-same
returns-clause-same c = λ r. (permutation_among _ _ c.sort_by_key.ensures.permutation r, among_permutation _ _ c.sort_by_key.ensures.permutation r)
