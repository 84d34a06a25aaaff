use Rattle.source_rows.proofs.Unmet.{AreUnmetFirst}
use Rattle.source_rows.proofs.follows.Follows.touched.Given as goal

abbrev pub invariant-loop-i : goal.invariant-loop-i
invariant-loop-i l = AreUnmetFirst l.touched l.i l.initial.self l.self
