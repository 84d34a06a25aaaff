use Rattle.std.proofs.Common.{subst}
use Rattle.relation_rows.specs.Idle.{EachHas, DepartsWith}
use Rattle.relation_rows.proofs.IdleRows.{reached_whole}
use Rattle.relation_rows.proofs.idle.is_second_whole.Goals as goal

pub returns : goal.returns
returns c = λ t. reached_whole c.args.rows.now c.args.second.now c.requires.second (c.are_idle.ensures c.if-not-are_idle.false) (subst (EachHas DepartsWith c.args.second.now) c.in_ok-starts.ensures (c.are_reached.ensures t))
