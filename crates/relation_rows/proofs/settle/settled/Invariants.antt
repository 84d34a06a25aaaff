use Rattle.std.proofs.Common.{length}
use Rattle.relation_rows.proofs.Settling.{HasSettled}
use Rattle.relation_rows.proofs.settle.settled.Given as goal

abbrev pub invariant-loop-first : goal.invariant-loop-first
invariant-loop-first l = HasSettled l.fn.ways l.left l.done.items

abbrev pub decreases-loop-first : goal.decreases-loop-first
decreases-loop-first l = length l.left
