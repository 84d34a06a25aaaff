use Rattle.std.proofs.Common.{◌≡◌, take}
use Rattle.itpg_graph.proofs.graph.Graph.copy.Given as goal

abbrev pub invariant-loop-object : goal.invariant-loop-object
invariant-loop-object l = l.objects.items ≡ take l.object-index l.object-items
