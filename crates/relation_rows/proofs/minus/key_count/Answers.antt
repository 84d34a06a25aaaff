use Rattle.relation_rows.proofs.Subtracting.{group_up, group_some}
use Rattle.relation_rows.proofs.minus.key_count.Goals as goal

pub leading-requires-clause-up : goal.leading-requires-clause-up
leading-requires-clause-up c = group_up c.args.rows.now c.args.first.now c.requires.order c.requires.first

pub returns-clause-some : goal.returns-clause-some
returns-clause-some c = group_some c.args.rows.now c.args.first.now c.requires.order c.requires.first c.leading.result c.leading.ensures.later
