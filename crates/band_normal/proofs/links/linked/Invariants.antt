use Rattle.std.proofs.Common.{take}
use Rattle.band_normal.specs.Strips.{Holds}
use Rattle.band_normal.proofs.LinkSteps.{AreLinking}
use Rattle.band_normal.proofs.links.linked.Given as goal

abbrev pub ghost-link_strip : goal.ghost-link_strip
ghost-link_strip g a = g.held

abbrev pub invariant-loop-strip : goal.invariant-loop-strip
invariant-loop-strip g l = AreLinking (Holds g.held) l.ends (take l.strip-index l.starts) l.linking.complete.items l.linking.slots.items
