use Rattle.std.proofs.Common.{take}
use Rattle.relation_rows.proofs.Joining.{AreBeyond}
use Rattle.relation_rows.proofs.beyond.beyond.Given as goal

abbrev pub invariant-loop-way : goal.invariant-loop-way
invariant-loop-way l = AreBeyond (take l.way-index l.fn.ways) l.fn.rows l.left.items
