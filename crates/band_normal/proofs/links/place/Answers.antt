use Rattle.std.proofs.Common.{refl, arith}
use Rattle.band_normal.proofs.Prolonging.{not_true}
use Rattle.band_normal.proofs.LinkLemmas.{half_before, half_after}
use Rattle.band_normal.proofs.links.place.Goals as goal

pub loop-from-preserved-then-ends_before : goal.loop-from-preserved-then-ends_before
loop-from-preserved-then-ends_before c =
    let lt = c.loop-from-test.true in let within = c.loop-from.invariant.within in
    record {
      sides = omega arith;
      within = c.loop-from.invariant.within;
      before = half_before _ _ _ _ c.requires (omega arith) (c.if-ends_before.ensures.0 refl);
      after = c.loop-from.invariant.after;
    }

pub loop-from-preserved : goal.loop-from-preserved
loop-from-preserved c =
    let lt = c.loop-from-test.true in let within = c.loop-from.invariant.within in
    record {
      sides = omega arith;
      within = omega arith;
      before = c.loop-from.invariant.before;
      after = half_after _ _ _ _ c.requires (omega arith) (not_true c.if-ends_before.ensures);
    }
