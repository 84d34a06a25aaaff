use Rattle.std.proofs.Common.{◌≡◌, ◌∷◌, ◌+◌, ap, arith, ◌∙◌}
use Rattle.trial_script.specs.Script.{live_line, node_name}
use Rattle.trial_script.specs.Left.{left_lives}
use Rattle.trial_script.proofs.Places.{lives_go, lives_end}
use Rattle.trial_script.proofs.trial.after_life.Goals as goal

pub returns-then-node-lt-NODES-clause-left : goal.returns-then-node-lt-NODES-clause-left
returns-then-node-lt-NODES-clause-left c = λ x. lives_go c.args.node x c.requires

pub returns-else-node-lt-NODES-clause-left : goal.returns-else-node-lt-NODES-clause-left
returns-else-node-lt-NODES-clause-left c = λ x.
    let last : c.args.node + 1 ≡ 200 = omega (arith, c.requires, c.if-node-lt-NODES.false) in
    lives_go c.args.node x c.requires ∙ ap (λ l. live_line (node_name c.args.node) 0 9999 ∷ l) (ap (λ n. left_lives n x) last ∙ lives_end x)
