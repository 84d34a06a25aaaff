use Rattle.std.proofs.Common.{take, []}
use Rattle.path_eval.specs.Axes.{StepsFrom}
use Rattle.path_eval.proofs.Adding.{Added}
use Rattle.path_eval.proofs.axes.steps_of.Given as goal

abbrev pub invariant-loop-object : goal.invariant-loop-object
invariant-loop-object l = Added (StepsFrom l.fn.direction l.fn.targets l.fn.ground.graph.now l.fn.zone) [] (take l.object-index l.objects) l.items.items
