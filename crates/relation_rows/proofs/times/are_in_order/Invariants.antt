use Rattle.relation_rows.specs.Times.{TimeUpTo}
use Rattle.relation_rows.proofs.Neighbours.{AreNext}
use Rattle.relation_rows.proofs.times.are_in_order.Given as goal

abbrev pub invariant-loop-i : goal.invariant-loop-i
invariant-loop-i l = AreNext TimeUpTo l.fn.times l.i
