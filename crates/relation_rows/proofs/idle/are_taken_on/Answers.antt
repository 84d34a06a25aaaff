use Rattle.std.proofs.Common.{sym}
use Rattle.itpg_base.specs.Lists.{Among}
use Rattle.itpg_base.proofs.Lists.{among_at}
use Rattle.relation_rows.specs.declared.rows.Row.{Row}
use Rattle.relation_rows.specs.Idle.{TakesOn}
use Rattle.relation_rows.proofs.Partitions.{first_among}
use Rattle.relation_rows.proofs.IdleRows.{one_more}
use Rattle.relation_rows.proofs.idle.are_taken_on.Goals as goal

pub takes_on-requires : goal.takes_on-requires
takes_on-requires c = c.requires _ (among_at c.args.rows.now c.loop-row.row-index _ c.loop-row-test.true)

pub loop-row-preserved : goal.loop-row-preserved
loop-row-preserved c =
    let first = first_among c.from.result.now c.in-Some.next.now (sym c.in-Some.ensures.value) in
    one_more (λ r. (s : Row) × Among c.args.second.now s × TakesOn s r) c.args.rows.now c.loop-row.row-index _ c.loop-row-test.true c.loop-row.invariant
    (c.in-Some.next.now, ((c.from.ensures.rows c.in-Some.next.now).0 first).0, c.takes_on.ensures c.if-not-takes_on.false)
