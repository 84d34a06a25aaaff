use Rattle.std.proofs.Common.{◌≡◌, ◌<◌, ◌+◌, ◌↔◌, true, length, rules, subst}
use Rattle.itpg_base.specs.Spans.{IsSpan}
use Rattle.interval_set.proofs.Fewer.{few_put, never_beyond}
use Rattle.interval_set.proofs.values.ValuedSet.puts_beyond.Goals as goal

pub returns-else-may_pass : goal.returns-else-may_pass
returns-else-may_pass c = λ runs are.
    let xs = c.args.self.now in
    let span : IsSpan c.args.s = search rules in
    let near = subst (λ n. (c.may_pass.result ≡ true) ↔ (c.args.most < n + 3)) c.count.ensures.value c.may_pass.ensures in
    never_beyond (length xs) (length runs) c.args.most c.may_pass.result near c.if-may_pass.false (few_put xs c.args.s c.args.value.now c.count.ensures.coalesced span runs are)
