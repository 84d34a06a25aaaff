use Rattle.std.proofs.Common.{sym, subst, arith}
use Rattle.relation_rows.specs.Rows.{RowsHold, IsRelation}
use Rattle.relation_rows.proofs.DirectWays.{its_wide}
use Rattle.relation_rows.proofs.compose.within.Goals as goal

pub returns-then-len-room : goal.returns-then-len-room
returns-then-len-room c =
    let own = subst IsRelation c.relation.view_is c.relation.invariant in
    its_wide (RowsHold c.args.relation) c.args.relation c.args.room (record { normal = own.normal; formed = own.formed }) (rw (sym c.relation.view_is) (omega arith))
