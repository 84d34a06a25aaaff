use Rattle.std.proofs.Common.{◌+◌, take}
use Rattle.relation_rows.proofs.Coalescing.{Coalesced}
use Rattle.relation_rows.proofs.times.joined_all.Given as goal

abbrev pub invariant-loop-row : goal.invariant-loop-row
invariant-loop-row l = Coalesced (take (l.row-index + 1) l.fn.times) l.rows.items l.last
