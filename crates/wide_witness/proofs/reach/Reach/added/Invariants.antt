use Rattle.std.proofs.Common.{take}
use Rattle.wide_witness.specs.Steps.{IsAdded}
use Rattle.wide_witness.proofs.reach.Reach.added.Given as goal

abbrev pub invariant-loop-run : goal.invariant-loop-run
invariant-loop-run l = IsAdded l.fn.x (take l.run-index l.fn.self.newest.items) l.fn.self.all.items l.added.items
