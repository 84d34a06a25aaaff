use Rattle.relation_rows.specs.Rows.{RowsHold}
use Rattle.wide_witness.proofs.Counting.{seen_is_wide}
use Rattle.wide_witness.proofs.laws.law_of_seen_width.Goals as goal

pub returns : goal.returns
returns g c rows steps limit seen same = seen_is_wide (RowsHold rows) steps limit seen (g.P.Pairs.holds c.args.pairs.now) same
