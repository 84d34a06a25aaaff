use Rattle.standing_queries.specs.Touched.{AreTouchedFirst}
use Rattle.standing_queries.proofs.watches.Watches.touched.Given as goal

abbrev pub invariant-loop-i : goal.invariant-loop-i
invariant-loop-i l = AreTouchedFirst l.i l.touch l.initial.self l.self
