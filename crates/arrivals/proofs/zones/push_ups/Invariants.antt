use Rattle.std.proofs.Common.{take}
use Rattle.zone_core.specs.Zone.{Meets}
use Rattle.arrivals.specs.Firsts.{IsAbove}
use Rattle.arrivals.proofs.Pushing.{Pushed}
use Rattle.arrivals.proofs.zones.push_ups.Given as goal

abbrev pub invariant-loop-zone : goal.invariant-loop-zone
invariant-loop-zone l = Pushed (λ z. IsAbove (Meets z)) l.initial.ups.items (take l.zone-index l.fn.zones) l.ups.items
