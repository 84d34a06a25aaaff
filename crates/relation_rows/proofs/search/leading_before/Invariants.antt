use Rattle.std.proofs.Common.{◌<◌, length, ◌-◌}
use Rattle.relation_rows.proofs.search.leading_before.Given as goal

abbrev pub invariant-loop-near : goal.invariant-loop-near
invariant-loop-near l = 0 < l.near

abbrev pub decreases-loop-near : goal.decreases-loop-near
decreases-loop-near l = length l.rows - l.near
