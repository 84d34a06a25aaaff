use Rattle.itpg_base.proofs.Lists.{among_at}
use Rattle.relation_rows.specs.Idle.{IsIdle}
use Rattle.relation_rows.proofs.IdleRows.{one_more, all_so_far}
use Rattle.relation_rows.proofs.idle.are_idle.Goals as goal

pub is_idle-requires : goal.is_idle-requires
is_idle-requires c = c.requires _ (among_at c.args.rows.now c.loop-row.row-index _ c.loop-row-test.true)

pub loop-row-preserved : goal.loop-row-preserved
loop-row-preserved c = one_more IsIdle c.args.rows.now c.loop-row.row-index _ c.loop-row-test.true c.loop-row.invariant (c.is_idle.ensures c.if-not-is_idle.false)

pub returns : goal.returns
returns c = λ e. all_so_far IsIdle c.args.rows.now c.loop-row.row-index c.loop-row-test.false c.loop-row.invariant
