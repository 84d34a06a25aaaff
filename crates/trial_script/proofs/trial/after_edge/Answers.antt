use Rattle.std.proofs.Common.{◌≡◌, ◌+◌, ap, arith, ◌∙◌}
use Rattle.trial_script.specs.Left.{left_edges}
use Rattle.trial_script.proofs.Places.{edges_end}
use Rattle.trial_script.proofs.trial.after_edge.Goals as goal

pub returns-else-edge-lt-EDGES-clause-left : goal.returns-else-edge-lt-EDGES-clause-left
returns-else-edge-lt-EDGES-clause-left c = λ x.
    let last : c.args.edge + 1 ≡ 2000 = omega (arith, c.requires, c.if-edge-lt-EDGES.false) in
    ap (λ n. left_edges n x) last ∙ edges_end x
