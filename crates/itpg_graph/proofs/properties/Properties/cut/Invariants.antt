use Rattle.std.proofs.Common.{take}
use Rattle.itpg_graph.specs.Families.{AreProperties}
use Rattle.itpg_graph.proofs.Cutting.{Outside}
use Rattle.itpg_graph.proofs.properties.Properties.cut.Given as goal

abbrev pub invariant-loop-property : goal.invariant-loop-property
invariant-loop-property l = AreProperties (Outside l.s (take l.property-index l.property-items)) l.list.items
