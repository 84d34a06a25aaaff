use Rattle.std.proofs.Common.{◌≡◌, pos, ◌+ℤ◌, ◌-ℤ◌, ◌≤ℤ◌}
use borrow.Author.Differences.{up}
use Rattle.band_normal.specs.Strips.{Holds}
use Rattle.itpg_base.specs.Lists.{Ordered}
use Rattle.band_normal.specs.Rows.{AreRowsTo, RunsBelow}
use Rattle.band_normal.proofs.Sweeping.{IsSweeping}
use Rattle.band_normal.proofs.sweep.rows_over.Given as goal

abbrev pub ghost-join : goal.ghost-join
ghost-join g a = g.held

abbrev pub invariant-loop-left : goal.invariant-loop-left
invariant-loop-left g l = record {
  rows : AreRowsTo (Holds g.held) l.left.from l.rows.complete.items l.rows.reaching.items;
  line : Ordered RunsBelow l.rows.reaching.items;
  sweep : IsSweeping g.held l.left.from l.waiting l.active.items;
  to : l.left.to ≡ l.fn.span.to;
  from : l.fn.span.from ≤ℤ l.left.from;
  next : l.left.from ≤ℤ (l.left.to +ℤ pos 1);
}

abbrev pub decreases-loop-left : goal.decreases-loop-left
decreases-loop-left g l = up ((l.left.to +ℤ pos 1) -ℤ l.left.from)
