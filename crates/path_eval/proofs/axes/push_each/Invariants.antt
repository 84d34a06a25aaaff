use Rattle.std.proofs.Common.{take}
use Rattle.path_eval.specs.Axes.{StepTo}
use Rattle.path_eval.proofs.Adding.{Added}
use Rattle.path_eval.proofs.axes.push_each.Given as goal

abbrev pub invariant-loop-other : goal.invariant-loop-other
invariant-loop-other l = Added (StepTo l.fn.targets l.fn.graph l.fn.zone l.fn.object) l.initial.items.items (take l.other-index l.others) l.items.items
