use Rattle.std.proofs.Common.{[], true, take}
use Rattle.relation_rows.specs.Relations.{HasMiddlePoint}
use Rattle.relation_rows.specs.Direct.{AddsWays}
use Rattle.relation_rows.proofs.direct.known_ways.Given as goal

abbrev pub invariant-loop-row : goal.invariant-loop-row
invariant-loop-row l = AddsWays (HasMiddlePoint (take l.row-index l.fn.rows) l.fn.second) true [] l.ways.items
