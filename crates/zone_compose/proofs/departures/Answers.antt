use Rattle.std.proofs.Common.{SFits, w64, to_z-of_z, rules}
use Rattle.zone_core.proofs.Pairs.{tight-from, tight-to}
use Rattle.zone_compose.proofs.departures.Goals as goal

pub returns : goal.returns
returns c =
    let fa : SFits w64 c.bounds-k.result.a = search rules in
    let fb : SFits w64 c.bounds-k.result.b = search rules in
    rw (← c.bounds-k.ensures.same) (simp to_z-of_z (record {
      least = λ t u m. m.from;
      greatest = λ t u m. m.to;
      least_met = tight-from _ c.bounds-k.ensures.tight;
      greatest_met = tight-to _ c.bounds-k.ensures.tight;
    }))
