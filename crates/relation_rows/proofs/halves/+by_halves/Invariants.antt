use Rattle.std.proofs.Common.{◌+◌, length}
use Rattle.relation_rows.proofs.halves.+by_halves.Given as goal

abbrev pub decreases-by_halves : goal.decreases-by_halves
decreases-by_halves l = length l.rows.now + length l.others.now
