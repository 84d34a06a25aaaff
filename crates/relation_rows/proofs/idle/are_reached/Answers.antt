use Rattle.std.proofs.Common.{sym}
use Rattle.itpg_base.specs.Lists.{Among}
use Rattle.relation_rows.specs.declared.rows.Row.{Row}
use Rattle.relation_rows.specs.Idle.{DepartsWith}
use Rattle.relation_rows.proofs.Partitions.{first_among}
use Rattle.relation_rows.proofs.IdleRows.{one_more}
use Rattle.relation_rows.proofs.idle.are_reached.Goals as goal

pub loop-next-preserved : goal.loop-next-preserved
loop-next-preserved c =
    let first = first_among c.from.result.now c.in-Some.row.now (sym c.in-Some.ensures.value) in
    one_more (λ r. (s : Row) × Among c.args.rows.now s × DepartsWith s r) c.args.second.now c.loop-next.next-index _ c.loop-next-test.true c.loop-next.invariant
    (c.in-Some.row.now, ((c.from.ensures.rows c.in-Some.row.now).0 first).0, c.departs_with.ensures c.if-not-departs_with.false)
