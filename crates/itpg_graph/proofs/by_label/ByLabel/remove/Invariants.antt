use Rattle.std.proofs.Common.{take}
use Rattle.itpg_graph.proofs.LabelLists.{IsRemoved}
use Rattle.itpg_graph.proofs.by_label.ByLabel.remove.Given as goal

abbrev pub invariant-loop-place : goal.invariant-loop-place
invariant-loop-place l = IsRemoved l.initial.self l.self l.number.0 (take l.place l.labels)
