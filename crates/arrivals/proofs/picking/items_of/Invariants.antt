use Rattle.std.proofs.Common.{length}
use Rattle.arrivals.specs.Choosing.{Beats}
use Rattle.arrivals.proofs.Choosing.{HasChosen}
use Rattle.arrivals.proofs.picking.items_of.Given as goal

abbrev pub invariant-loop-row : goal.invariant-loop-row
invariant-loop-row l = HasChosen (Beats l.fn.choice) l.fn.rows l.left l.items.items

abbrev pub decreases-loop-row : goal.decreases-loop-row
decreases-loop-row l = length l.left
