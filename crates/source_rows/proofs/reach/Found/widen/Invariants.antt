use Rattle.std.proofs.Common.{take, []}
use Rattle.source_rows.specs.Found.{Gains, IsNext}
use Rattle.source_rows.proofs.reach.Found.widen.Given as goal

abbrev pub invariant-loop-object : goal.invariant-loop-object
invariant-loop-object l = Gains (IsNext l.graph (take l.object-index l.object-items)) (record l.fn.self { fresh = [] }) l.self
