use Rattle.std.proofs.Common.{sym, true≢false}
use Rattle.condition_eval.proofs.Joining.{last_up, joined_last, joined_apart}
use Rattle.condition_eval.proofs.either.push_joined.Goals as goal

pub joined-requires-clause-up : goal.joined-requires-clause-up
joined-requires-clause-up c =
    last_up c.args.rows.now.items c.pop.new.self.items c.in-Some.last c.args.row c.in-Some.ensures.items c.requires.order c.requires.span c.requires.up (c.joins.ensures.0 c.if-joins.true)

pub returns-then-joins : goal.returns-then-joins
returns-then-joins c =
    let pushed = c.in_ok-push-2.ensures.items in
    joined_last c.args.rows.now.items c.pop.new.self.items c.in-Some.last c.args.row c.in-Some.ensures.items c.requires.order c.requires.span c.requires.up
    c.joined.result (c.joins.ensures.0 c.if-joins.true) c.joined.ensures.object c.joined.ensures.from c.joined.ensures.moments c.joined.ensures.span _ pushed

pub returns : goal.returns
returns c =
    let mid = c.in_ok-push-3.ensures.items in
    let pushed = c.in_ok-push-4.ensures.items in
    joined_apart c.args.rows.now.items c.pop.new.self.items c.in-Some.last c.args.row c.in-Some.ensures.items c.requires.order c.requires.span c.requires.up
    (λ j. true≢false (sym (c.if-joins.ensures.1 j))) _ _ mid pushed
