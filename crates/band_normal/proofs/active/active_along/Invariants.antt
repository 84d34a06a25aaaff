use Rattle.std.proofs.Common.{take}
use Rattle.band_normal.specs.Strips.{IsFront}
use Rattle.band_normal.specs.Actives.{AreActive}
use Rattle.band_normal.proofs.active.active_along.Given as goal

abbrev pub invariant-loop-band : goal.invariant-loop-band
invariant-loop-band l = record { front : IsFront l.fn.along l.kept; active : AreActive (take l.band-index l.bands) l.kept l.reaches.items }
