use Rattle.std.proofs.Common.{take}
use Rattle.arrivals.specs.Choosing.{InBandOf}
use Rattle.arrivals.proofs.Pushing.{Pushed}
use Rattle.arrivals.proofs.picking.push_rows.Given as goal

abbrev pub invariant-loop-row : goal.invariant-loop-row
invariant-loop-row l = Pushed InBandOf l.initial.zones.items (take l.row-index l.fn.rows) l.zones.items
