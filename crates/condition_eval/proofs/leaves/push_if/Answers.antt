use Rattle.std.proofs.Common.{rules}
use Rattle.itpg_base.specs.Spans.{IsSpan}
use Rattle.condition_eval.proofs.Points.{one_run}
use Rattle.condition_eval.proofs.leaves.push_if.Goals as goal

pub returns : goal.returns
returns c =
    let pushed = c.in_ok-push.ensures.items in
    let span : IsSpan c.args.span = search rules in
    one_run c.args.object _ _ _ c.args.span span (λ t h. h.0) (λ t w. (w, c.if-not-holds.false)) pushed
