use Rattle.std.proofs.Common.{◌-◌, length}
use Rattle.edit_reader.proofs.Counting.{IsCounted}
use Rattle.edit_reader.proofs.faults.scan_line.Given as goal

abbrev pub invariant-loop-token : goal.invariant-loop-token
invariant-loop-token l = IsCounted l.line l.at l.count

abbrev pub decreases-loop-token : goal.decreases-loop-token
decreases-loop-token l = length l.line - l.at
