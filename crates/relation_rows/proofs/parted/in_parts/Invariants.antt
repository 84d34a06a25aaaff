use Rattle.std.proofs.Common.{length}
use Rattle.relation_rows.proofs.EvenParts.{HaveParts}
use Rattle.relation_rows.proofs.parted.in_parts.Given as goal

abbrev pub invariant-loop-left : goal.invariant-loop-left
invariant-loop-left l = HaveParts l.fn.rows l.left l.even.items l.rest.items

abbrev pub decreases-loop-left : goal.decreases-loop-left
decreases-loop-left l = length l.left
