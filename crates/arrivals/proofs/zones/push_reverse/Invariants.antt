use Rattle.std.proofs.Common.{take}
use Rattle.zone_core.specs.Zone.{Meets}
use Rattle.arrivals.specs.Firsts.{Reversed}
use Rattle.arrivals.proofs.Pushing.{Pushed}
use Rattle.arrivals.proofs.zones.push_reverse.Given as goal

abbrev pub invariant-loop-zone : goal.invariant-loop-zone
invariant-loop-zone l = Pushed (λ z. Reversed (Meets z)) l.initial.turned.items (take l.zone-index l.fn.zones) l.turned.items
