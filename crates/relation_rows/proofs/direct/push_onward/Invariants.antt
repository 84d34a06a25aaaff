use Rattle.std.proofs.Common.{true, take}
use Rattle.relation_rows.specs.Ways.{GoesOn}
use Rattle.relation_rows.specs.Direct.{AddsWays}
use Rattle.relation_rows.proofs.direct.push_onward.Given as goal

abbrev pub invariant-loop-i : goal.invariant-loop-i
invariant-loop-i l = AddsWays (GoesOn l.fn.row (take l.i l.fn.here)) true l.initial.ways.items l.ways.items
