use Rattle.std.proofs.Common.{◌≤◌, take}
use Rattle.wide_witness.proofs.Appending.{AreFrom}
use Rattle.wide_witness.proofs.by_source.from_sources.Given as goal

abbrev pub invariant-loop-i : goal.invariant-loop-i
invariant-loop-i l = AreFrom l.fn.one l.fn.onward l.fn.most (take l.i l.rows) l.total l.all × (l.total ≤ l.fn.max_rows)
