use Rattle.std.proofs.Common.{take}
use Rattle.wide_witness.specs.Steps.{IsPushed}
use Rattle.wide_witness.proofs.reach.push_led.Given as goal

abbrev pub invariant-loop-row : goal.invariant-loop-row
invariant-loop-row l = IsPushed l.fn.run (take l.row-index l.fn.here) l.fn.all l.initial.added.items l.added.items
