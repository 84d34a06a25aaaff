use Rattle.relation_rows.specs.Rows.{RowsHold}
use Rattle.wide_witness.proofs.Walking.{more_seen}
use Rattle.wide_witness.proofs.witness.runs_from_row.Goals as goal

pub returns : goal.returns
returns c = more_seen (RowsHold c.args.x.now) c.args.steps c.args.row.now.source.0 c.in_ok-first.first c.in_ok-last.last c.max.result c.max.ensures c.in_ok-first.ensures c.in_ok-last.ensures
