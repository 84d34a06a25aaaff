use Rattle.std.proofs.Common.{take}
use Rattle.relation_rows.proofs.Leaving.{AreClear}
use Rattle.relation_rows.proofs.minus.are_clear_of.Given as goal

abbrev pub invariant-loop-zone : goal.invariant-loop-zone
invariant-loop-zone l = AreClear (take l.zone-index l.fn.zones) l.fn.cut
