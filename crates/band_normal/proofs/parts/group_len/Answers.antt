use Rattle.std.proofs.Common.{refl, sym, subst, ℤ, ◌≡◌, ◌≤ℤ◌, arith, SFits, w64, to_z, of_z, to_z-of_z}
use Rattle.std.proofs.lemmas.Int.{ints}
use Rattle.zone_core.specs.Zone.{Within, difference_reach}
use Rattle.band_normal.specs.Parts.{end_of}
use Rattle.band_normal.proofs.PartLemmas.{reached_more, group_apart}
use Rattle.band_normal.proofs.parts.group_len.Goals as goal

pub returns-then-is_above-clause-apart : goal.returns-then-is_above-clause-apart
returns-then-is_above-clause-apart c = group_apart _ _ _ _ _ _ c.requires.order c.loop-i-test.true c.index-zones-i.is c.loop-i.invariant.reached (c.if-is_above.ensures.0 refl)

pub loop-i-preserved : goal.loop-i-preserved
loop-i-preserved c =
    let near = c.reach_with-reach.ensures.near in
    let fits : SFits w64 c.reach_with-reach.result = omega (arith, ints) in
    let e : to_z w64 (of_z w64 c.reach_with-reach.result) ≡ c.reach_with-reach.result = to_z-of_z fits in
    record {
      near = subst (λ (v : ℤ). Within difference_reach v) (sym e) near;
      reached = reached_more c.args.measure c.args.zones.now c.loop-i.i c.index-zones-i.result c.index-zones-i.result (to_z w64 c.loop-i.reach-bits) _ c.loop-i-test.true c.index-zones-i.is c.loop-i.invariant.reached
          (subst (λ (v : ℤ). to_z w64 c.loop-i.reach-bits ≤ℤ v) (sym e) c.reach_with-reach.ensures.old)
          (subst (λ (v : ℤ). end_of c.args.measure c.index-zones-i.result ≤ℤ v) (sym e) c.reach_with-reach.ensures.zone);
    }
