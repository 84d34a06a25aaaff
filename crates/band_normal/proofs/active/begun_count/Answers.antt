use Rattle.std.proofs.Common.{refl}
use Rattle.band_normal.proofs.Sweeping.{later_than, begun_more, not_after}
use Rattle.band_normal.proofs.active.begun_count.Goals as goal

pub returns-then-begins_after-clause-later : goal.returns-then-begins_after-clause-later
returns-then-begins_after-clause-later c = λ b i. later_than _ _ _ _ c.requires c.loop-i-test.true (c.if-begins_after.ensures.0 refl) b i

pub loop-i-preserved : goal.loop-i-preserved
loop-i-preserved c = begun_more _ _ _ _ c.loop-i-test.true c.loop-i.invariant (not_after _ _ c.if-begins_after.ensures)
