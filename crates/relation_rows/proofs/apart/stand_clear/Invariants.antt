use Rattle.relation_rows.specs.Apart.{ComesClear}
use Rattle.relation_rows.proofs.Neighbours.{AreNext}
use Rattle.relation_rows.proofs.apart.stand_clear.Given as goal

abbrev pub invariant-loop-i : goal.invariant-loop-i
invariant-loop-i l = AreNext ComesClear l.fn.rows l.i
