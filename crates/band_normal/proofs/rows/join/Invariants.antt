use Rattle.band_normal.specs.Strips.{Holds}
use Rattle.band_normal.proofs.LineLemmas.{AreLining}
use Rattle.band_normal.proofs.rows.join.Given as goal

abbrev pub ghost-with_strip : goal.ghost-with_strip
ghost-with_strip g a = g.held

abbrev pub invariant-loop-ends : goal.invariant-loop-ends
invariant-loop-ends g l = AreLining (Holds g.held) l.strips.along l.ends-items l.ends-index l.joining.complete.items l.joining.next.items l.joining.passed.items l.waiting
