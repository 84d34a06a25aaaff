use Rattle.std.proofs.Common.{take, []}
use Rattle.source_rows.specs.Found.{Gains, IsEndOf}
use Rattle.source_rows.proofs.reach.Found.add_ends.Given as goal

abbrev pub invariant-loop-object : goal.invariant-loop-object
invariant-loop-object l = Gains (IsEndOf l.graph (take l.object-index l.object-items)) (record l.fn.self { fresh = [] }) l.self
