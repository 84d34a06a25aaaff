use Rattle.std.proofs.Common.{◌+◌, length}
use Rattle.arrivals.proofs.Swept.{IsSweeping}
use Rattle.arrivals.proofs.counts.swept.Given as goal

abbrev pub invariant-loop-stop : goal.invariant-loop-stop
invariant-loop-stop l = IsSweeping l.fn.times l.waiting l.ending l.rows.items l.last

abbrev pub decreases-loop-stop : goal.decreases-loop-stop
decreases-loop-stop l = length l.waiting + length l.ending
