use Rattle.std.proofs.Common.{◌≤ℤ◌, ◌<ℤ◌, SFits, w64, to_z-of_z, rules}
use Rattle.band_normal.proofs.CutLemmas.{cut_more}
use Rattle.band_normal.proofs.cuts.parts_at.Goals as goal

pub loop-zone-preserved : goal.loop-zone-preserved
loop-zone-preserved c = let last : SFits w64 c.args.limit.last = search rules in record {
  front = λ t u. cut_more (λ v. v ≤ℤ c.args.limit.last) _ _ _ _ _ _ _ c.loop-zone-test.true c.zone-item.is c.in_ok-push_some.ensures (rw c.bounds-bounds.ensures.same at c.up_to.ensures) c.loop-zone.invariant.front t u;
  back = λ t u. cut_more (λ v. c.args.limit.last <ℤ v) _ _ _ _ _ _ _ c.loop-zone-test.true c.zone-item.is c.in_ok-push_some-2.ensures (rw (c.bounds-bounds.ensures.same, to_z-of_z last) at c.after.ensures) c.loop-zone.invariant.back t u;
}
