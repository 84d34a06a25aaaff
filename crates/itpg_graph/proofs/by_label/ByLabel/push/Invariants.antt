use Rattle.std.proofs.Common.{take}
use Rattle.itpg_graph.proofs.LabelLists.{IsPushed}
use Rattle.itpg_graph.proofs.by_label.ByLabel.push.Given as goal

abbrev pub invariant-loop-place : goal.invariant-loop-place
invariant-loop-place l = IsPushed l.initial.self l.self l.number (take l.place l.labels)
