use Rattle.std.proofs.Common.{take}
use Rattle.itpg_graph.proofs.PartLabels.{AreThose}
use Rattle.itpg_graph.proofs.part.those_with.Given as goal

abbrev pub invariant-loop-object : goal.invariant-loop-object
invariant-loop-object l = AreThose l.fn.graph l.fn.label (take l.object-index l.fn.objects) l.kept.items
