use Rattle.std.proofs.Common.{subst}
use Rattle.relation_rows.specs.Idle.{AreIdle}
use Rattle.relation_rows.proofs.IdleRows.{stays_whole}
use Rattle.relation_rows.proofs.idle.is_first_whole.Goals as goal

pub returns : goal.returns
returns c = λ t. stays_whole c.args.rows.now c.args.second.now c.requires.rows (subst AreIdle c.rows.ensures.rows (c.are_idle.ensures c.if-not-are_idle.false)) (c.are_taken_on.ensures t)
