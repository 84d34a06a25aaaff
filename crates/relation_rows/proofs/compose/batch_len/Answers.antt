use Rattle.std.proofs.Common.{◌-◌, arith}
use Rattle.relation_rows.proofs.OffsetLemmas.{boundary_apart}
use Rattle.relation_rows.proofs.compose.batch_len.Goals as goal

pub returns-then-rows-count-clause-apart : goal.returns-then-rows-count-clause-apart
returns-then-rows-count-clause-apart c = let few = c.loop-count.auto.count in boundary_apart c.args.rows.now c.requires.order (c.loop-count.count - 1) _ (omega arith) c.if-rows-count.true
