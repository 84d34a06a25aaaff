use Rattle.std.proofs.Common.{take}
use Rattle.itpg_graph.specs.Tables.{IsWidest}
use Rattle.itpg_graph.proofs.properties.Properties.widest_cut.Given as goal

abbrev pub invariant-loop-property : goal.invariant-loop-property
invariant-loop-property l = IsWidest (take l.property-index l.property-items) l.s l.widest
