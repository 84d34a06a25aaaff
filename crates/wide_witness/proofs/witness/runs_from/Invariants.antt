use Rattle.relation_rows.specs.Rows.{RowsHold}
use Rattle.wide_witness.specs.Steps.{AreReached, point}
use Rattle.wide_witness.proofs.witness.runs_from.Given as goal

abbrev pub invariant-loop-step : goal.invariant-loop-step
invariant-loop-step l = AreReached (RowsHold l.fn.x) (point l.fn.start.object.0 l.fn.start.span.from) l.step l.reach.all.items l.reach.newest.items
