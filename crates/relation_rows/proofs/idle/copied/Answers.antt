use Rattle.std.proofs.Common.{length, ap, arith}
use Rattle.relation_rows.specs.Rows.{RowsHold}
use Rattle.relation_rows.proofs.Listed.{rows_unique}
use Rattle.relation_rows.proofs.idle.copied.Goals as goal

pub returns-then-rows-max_rows : goal.returns-then-rows-max_rows
returns-then-rows-max_rows c = λ rows n.
    let e = ap length (rows_unique (RowsHold c.args.rows.now) rows c.args.rows.now n (c.requires).normal) in
    let many = c.if-rows-max_rows.true in
    omega (arith, e, many)
