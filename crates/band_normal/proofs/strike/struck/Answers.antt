use Rattle.std.proofs.Common.{refl}
use Rattle.band_normal.proofs.StrikeLemmas.{striking_both, striking_left, striking_right, striking_end}
use Rattle.band_normal.proofs.strike.struck.Goals as goal

pub loop-row-preserved-then-is_same : goal.loop-row-preserved-then-is_same
loop-row-preserved-then-is_same c = striking_both _ _ _ _ _ _ _ _ _ _ c.in-Some.ensures.cases.0 c.in-Some-split_first.ensures.cases.0 (c.if-is_same.ensures.0 refl) c.loop-row.invariant

pub loop-row-preserved-then-is_earlier : goal.loop-row-preserved-then-is_earlier
loop-row-preserved-then-is_earlier c = striking_left _ _ _ _ _ _ _ _ _ c.in-Some.ensures.cases.0 c.in_ok-push.ensures.items c.loop-row.invariant

pub loop-row-preserved : goal.loop-row-preserved
loop-row-preserved c = striking_right _ _ _ _ _ _ _ _ _ c.in-Some-split_first.ensures.cases.0 c.in_ok-push-2.ensures.items c.loop-row.invariant

pub returns : goal.returns
returns c = λ t u. striking_end _ _ _ _ _ _ _ _ c.in_ok-extend_from_slice.ensures.items c.in_ok-extend_from_slice-2.ensures.items c.loop-row.invariant t u
