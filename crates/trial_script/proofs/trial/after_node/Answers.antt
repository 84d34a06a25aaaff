use Rattle.std.proofs.Common.{◌≡◌, ◌∷◌, ◌+◌, ap, arith, ◌∙◌}
use Rattle.trial_script.specs.Script.{node_line}
use Rattle.trial_script.specs.Left.{left_nodes}
use Rattle.trial_script.proofs.Places.{nodes_go, nodes_end}
use Rattle.trial_script.proofs.trial.after_node.Goals as goal

pub returns-then-node-lt-NODES-clause-left : goal.returns-then-node-lt-NODES-clause-left
returns-then-node-lt-NODES-clause-left c = λ x. nodes_go c.args.node x c.requires

pub returns-else-node-lt-NODES-clause-left : goal.returns-else-node-lt-NODES-clause-left
returns-else-node-lt-NODES-clause-left c = λ x.
    let last : c.args.node + 1 ≡ 200 = omega (arith, c.requires, c.if-node-lt-NODES.false) in
    nodes_go c.args.node x c.requires ∙ ap (λ l. node_line c.args.node ∷ l) (ap (λ n. left_nodes n x) last ∙ nodes_end x)
