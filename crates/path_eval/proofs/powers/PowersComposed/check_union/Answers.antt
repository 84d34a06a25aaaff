use Rattle.path_eval.proofs.Foreseen.{seen_not_fit}
use Rattle.path_eval.proofs.powers.PowersComposed.check_union.Goals as goal

pub returns-then-branch : goal.returns-then-branch
returns-then-branch c =
    let s = c.args.self.now in
    let seen = c.in_ok-is_seen_wide.ensures c.if-branch.true in
    λ other fits. seen_not_fit s.ground.now.graph.now s.passed.now c.args.x.now c.requires.own_x c.args.n s.ground.now.max_rows seen fits
