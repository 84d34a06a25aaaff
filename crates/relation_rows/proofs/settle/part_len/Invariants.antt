use Rattle.relation_rows.proofs.Settling.{AreOfPart}
use Rattle.relation_rows.proofs.settle.part_len.Given as goal

abbrev pub invariant-loop-i : goal.invariant-loop-i
invariant-loop-i l = AreOfPart l.rows l.i l.fn.first l.last
