use Rattle.std.proofs.Common.{take}
use Rattle.arrivals.specs.Firsts.{OnLow}
use Rattle.arrivals.proofs.Pushing.{Pushed}
use Rattle.arrivals.proofs.zones.push_lines.Given as goal

abbrev pub invariant-loop-band : goal.invariant-loop-band
invariant-loop-band l = Pushed OnLow l.initial.zones.items (take l.band-index l.fn.bands) l.zones.items
