use Rattle.std.proofs.Common.{rules}
use Rattle.std.proofs.lemmas.Fn.{always_returns_same}
use Rattle.relation_rows.specs.declared.times.OneRow.{OneRow}
use Rattle.arrivals.proofs.Rests.{starts_sorted}
use Rattle.arrivals.proofs.counts.by_start.Goals as goal

pub returns-clause-order : goal.returns-clause-order
returns-clause-order c = starts_sorted _ (c.in_ok-sort_by_key.ensures.sorted (λ (r : OneRow). r.span.from) (always_returns_same _ _ _ (λ a r q k. search rules)))
