use Rattle.itpg_graph.specs.Edges.{LeadsFrom, LeadsTo}
use Rattle.itpg_edit.proofs.Checked.{some_number}
use Rattle.itpg_graph.proofs.Asked.{from_end, to_end}
use Rattle.itpg_edit.proofs.facts.is_incident.Goals as goal

pub returns-then-not-is_empty-clause-end : goal.returns-then-not-is_empty-clause-end
returns-then-not-is_empty-clause-end c = λ is.
    let e = some_number (LeadsFrom c.args.graph.now c.args.node.0) c.out_edges.result.now c.is_empty.result c.out_edges.ensures c.is_empty.ensures is in
    (e.0, from_end c.args.graph.now c.args.node.0 e.0 e.1)

pub returns-else-not-is_empty-clause-end : goal.returns-else-not-is_empty-clause-end
returns-else-not-is_empty-clause-end c = λ is.
    let e = some_number (LeadsTo c.args.graph.now c.args.node.0) c.in_edges.result.now c.is_empty-else-not-is_empty.result c.in_edges.ensures c.is_empty-else-not-is_empty.ensures is in
    (e.0, to_end c.args.graph.now c.args.node.0 e.0 e.1)
