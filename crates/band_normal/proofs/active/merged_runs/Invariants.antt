use Rattle.std.proofs.Common.{take}
use Rattle.band_normal.specs.Strips.{IsFront, AreMerged}
use Rattle.band_normal.specs.Actives.{ends_of}
use Rattle.band_normal.proofs.active.merged_runs.Given as goal

abbrev pub invariant-loop-reach : goal.invariant-loop-reach
invariant-loop-reach l = record { front : IsFront l.fn.along l.strips.along; merged : AreMerged (ends_of (take l.reach-index l.reaches)) l.strips.along l.strips.runs.items }
