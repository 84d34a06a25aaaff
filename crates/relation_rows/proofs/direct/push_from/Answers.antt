use Rattle.relation_rows.proofs.DirectWays.{from_here}
use Rattle.relation_rows.proofs.direct.push_from.Goals as goal

pub returns : goal.returns
returns c = from_here c.args.row.now c.args.second.now c.from-here.result.now c.from-here.ensures.rows _ _ _ c.in_ok-told.ensures
