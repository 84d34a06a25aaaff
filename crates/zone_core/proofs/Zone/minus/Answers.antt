use Rattle.std.proofs.Common.{ℤ, SFits, w64, rules, to_z-of_z}
use Rattle.zone_core.proofs.Difference.{AreCut, pieces-apart, pieces-sound, pieces-whole}
use Rattle.zone_core.proofs.Zone.minus.Goals as goal
use Rattle.zone_core.proofs.Zone.minus.Goals.{After-later}

-- what the calls gave
cut : (c : After-later) (t u : ℤ)
    → AreCut c.self.inside.bounds c.other.inside.bounds c.departing_within-middle.result c.arriving_within-inner.result
    (record {
      before = c.before-2.result;
      after = c.after.result;
      below = c.below.result;
      above = c.above.result;
      sooner = c.sooner.result;
      later = c.later.result;
    }) t u
cut c t u =
    let o = c.other.inside.bounds in
    let a_fits : SFits w64 o.a = search rules in
    let b_fits : SFits w64 o.b = search rules in
    let c_fits : SFits w64 o.c = search rules in
    let d_fits : SFits w64 o.d = search rules in
    let e_fits : SFits w64 o.e = search rules in
    let f_fits : SFits w64 o.f = search rules in
    record {
      in_middle = c.departing_within-middle.ensures.pairs t u;
      in_inner = c.arriving_within-inner.ensures.pairs t u;
      before = simp to_z-of_z at (c.before-2.ensures t u);
      after = simp to_z-of_z at (c.after.ensures t u);
      below = simp to_z-of_z at (c.below.ensures t u);
      above = simp to_z-of_z at (c.above.ensures t u);
      sooner = simp to_z-of_z at (c.sooner.ensures t u);
      later = simp to_z-of_z at (c.later.ensures t u);
    }

pub returns-clause-pairs : goal.returns-clause-pairs
returns-clause-pairs c =
    rw (← c.self.view_is, ← c.other.view_is) (λ t u. (pieces-sound (cut c t u), pieces-whole (cut c t u)))

pub returns-clause-apart : goal.returns-clause-apart
returns-clause-apart c = pieces-apart c.other.invariant.1 (cut c)
