use Rattle.std.proofs.Common.{◌≡◌, ◌<◌, ◌+◌, ◌↔◌, true, length, rules, subst}
use Rattle.itpg_base.specs.Spans.{IsSpan}
use Rattle.interval_set.proofs.Fewer.{few_joined, never_beyond}
use Rattle.interval_set.proofs.set.IntervalSet.joins_beyond.Goals as goal

pub returns-else-may_pass : goal.returns-else-may_pass
returns-else-may_pass c = λ spans are.
    let xs = c.args.self.now in
    let span : IsSpan c.args.s = search rules in
    let near = subst (λ ys. (c.may_pass.result ≡ true) ↔ (c.args.most < length ys + 3)) c.spans.ensures.value c.may_pass.ensures in
    never_beyond (length xs) (length spans) c.args.most c.may_pass.result near c.if-may_pass.false (few_joined xs spans c.args.s c.spans.ensures.coalesced span are)
