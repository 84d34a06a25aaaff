use Rattle.std.proofs.Common.{rules}
use Rattle.std.proofs.lemmas.Fn.{always_returns_same}
use Rattle.relation_rows.specs.declared.rows.Row.{Row}
use Rattle.relation_rows.proofs.ByRows.{found_so}
use Rattle.relation_rows.proofs.by_rows.stand_by_departure.Goals as goal

pub returns : goal.returns
returns c = found_so c.args.rows.now c.is_sorted_by_key.result (c.is_sorted_by_key.ensures.cases (λ (r : Row). r.band.from) (always_returns_same _ _ _ (λ a r q k. search rules)))
