use Rattle.std.proofs.Common.{take}
use Rattle.itpg_graph.proofs.LabelLists.{IsReserved}
use Rattle.itpg_graph.proofs.by_label.ByLabel.reserve.Given as goal

abbrev pub invariant-loop-place : goal.invariant-loop-place
invariant-loop-place l = IsReserved l.initial.self l.self (take l.place l.labels)
