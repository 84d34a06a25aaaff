use Rattle.std.proofs.Common.{SFits, w64, to_z-of_z, rules}
use Rattle.zone_core.proofs.Pairs.{tight-low, tight-high}
use Rattle.zone_compose.proofs.arrivals.Goals as goal

pub returns : goal.returns
returns c =
    let fc : SFits w64 c.bounds-k.result.c = search rules in
    let fd : SFits w64 c.bounds-k.result.d = search rules in
    rw (← c.bounds-k.ensures.same) (simp to_z-of_z (record {
      least = λ t u m. m.low;
      greatest = λ t u m. m.high;
      least_met = tight-low _ c.bounds-k.ensures.tight;
      greatest_met = tight-high _ c.bounds-k.ensures.tight;
    }))
