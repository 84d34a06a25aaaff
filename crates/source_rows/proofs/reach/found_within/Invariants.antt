use Rattle.source_rows.specs.Found.{IsFound}
use Rattle.source_rows.proofs.reach.found_within.Given as goal

abbrev pub invariant-loop-turn : goal.invariant-loop-turn
invariant-loop-turn l = IsFound l.graph l.fn.object.0 l.turn l.found
