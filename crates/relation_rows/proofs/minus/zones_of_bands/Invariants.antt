use Rattle.std.proofs.Common.{take}
use Rattle.relation_rows.proofs.Leaving.{AreOfBands}
use Rattle.relation_rows.proofs.minus.zones_of_bands.Given as goal

abbrev pub invariant-loop-row : goal.invariant-loop-row
invariant-loop-row l = AreOfBands (take l.row-index l.fn.rows) l.zones.items
