use Rattle.relation_rows.specs.Apart.{ComesApart}
use Rattle.relation_rows.proofs.Neighbours.{AreNext}
use Rattle.relation_rows.proofs.apart.stand_apart.Given as goal

abbrev pub invariant-loop-i : goal.invariant-loop-i
invariant-loop-i l = AreNext ComesApart l.fn.rows l.i
