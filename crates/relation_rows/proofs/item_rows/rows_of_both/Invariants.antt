use Rattle.std.proofs.Common.{[], true, take}
use Rattle.relation_rows.specs.Direct.{AddsWays}
use Rattle.relation_rows.proofs.Covering.{FirstOrRows}
use Rattle.relation_rows.proofs.item_rows.rows_of_both.Given as goal

abbrev pub invariant-loop-item : goal.invariant-loop-item
invariant-loop-item l = AddsWays (FirstOrRows (take l.item-index l.fn.items) l.fn.rows) true [] l.both.items
