use Rattle.std.proofs.Common.{sym, ◌∙◌}
use Rattle.relation_rows.proofs.Covering.{within_row}
use Rattle.relation_rows.proofs.settle.lies_within.Goals as goal

pub returns-then-is_of_key : goal.returns-then-is_of_key
returns-then-is_of_key c =
    λ inside. within_row c.args.inner.now c.args.outer.now c.zone_of.result c.zone_of-then-is_of_key.result (sym c.is_of_key.ensures ∙ c.if-is_of_key.true) c.zone_of.ensures c.zone_of-then-is_of_key.ensures
    (c.inside.ensures.0 inside)
