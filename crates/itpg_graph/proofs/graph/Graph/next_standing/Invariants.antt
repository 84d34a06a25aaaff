use Rattle.itpg_graph.specs.GraphParts.{NoneStandsBetween}
use Rattle.itpg_graph.proofs.graph.Graph.next_standing.Given as goal

abbrev pub invariant-loop-number : goal.invariant-loop-number
invariant-loop-number l = NoneStandsBetween l.self l.fn.from l.number
