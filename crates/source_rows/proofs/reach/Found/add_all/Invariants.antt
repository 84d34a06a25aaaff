use Rattle.std.proofs.Common.{take}
use Rattle.itpg_graph.specs.Edges.{HasNumber}
use Rattle.source_rows.specs.Found.{Gains}
use Rattle.source_rows.proofs.reach.Found.add_all.Given as goal

abbrev pub invariant-loop-object : goal.invariant-loop-object
invariant-loop-object l = Gains (λ a. HasNumber (take l.object-index l.objects) a) l.fn.self l.self
