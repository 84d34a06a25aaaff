use Rattle.std.proofs.Common.{arith}
use Rattle.relation_rows.specs.Relations.{EitherHolds}
use Rattle.relation_rows.proofs.Alike.{relation_of}
use Rattle.relation_rows.proofs.Alone.{taken_united, taken_wide, taken_less}
use Rattle.relation_rows.proofs.Merged.{start, here_part, there_part, step_united, step_less, all_united}
use Rattle.relation_rows.proofs.union.united.Goals as goal

pub loop-key-init : goal.loop-key-init
loop-key-init c = (
  start c.args.first.now c.args.second.now c.in_ok-rows.rows.items c.in_ok-rows.ensures.items (c.requires.first).normal.order (c.requires.second).normal.order,
  rw c.in_ok-rows.ensures.items (omega arith),
)

pub push_both-requires-clause-here : goal.push_both-requires-clause-here
push_both-requires-clause-here c = here_part c.args.first.now c.args.second.now c.loop-key.left.now c.loop-key.right.now c.loop-key.rows.items c.loop-key.invariant.0 c.in-Some.key c.in-Some.ensures.some
    c.leading.result c.leading-in-Some.result c.leading.ensures.same c.leading.ensures.later c.leading-in-Some.ensures.same c.leading-in-Some.ensures.later
    c.split_at.result.0.now c.split_at.result.1.now c.split_at-in-Some.result.0.now c.split_at-in-Some.result.1.now c.split_at.ensures.front c.split_at.ensures.back c.split_at-in-Some.ensures.front c.split_at-in-Some.ensures.back
    c.requires.first

pub push_both-requires-clause-there : goal.push_both-requires-clause-there
push_both-requires-clause-there c = there_part c.args.first.now c.args.second.now c.loop-key.left.now c.loop-key.right.now c.loop-key.rows.items c.loop-key.invariant.0 c.in-Some.key c.in-Some.ensures.some
    c.leading.result c.leading-in-Some.result c.leading.ensures.same c.leading.ensures.later c.leading-in-Some.ensures.same c.leading-in-Some.ensures.later
    c.split_at.result.0.now c.split_at.result.1.now c.split_at-in-Some.result.0.now c.split_at-in-Some.result.1.now c.split_at.ensures.front c.split_at.ensures.back c.split_at-in-Some.ensures.front c.split_at-in-Some.ensures.back
    c.requires.second

pub alone_count-requires-clause-left : goal.alone_count-requires-clause-left
alone_count-requires-clause-left c = (step_united c.args.first.now c.args.second.now c.loop-key.left.now c.loop-key.right.now c.loop-key.rows.items c.loop-key.invariant.0 c.in-Some.key c.in-Some.ensures.some
    c.leading.result c.leading-in-Some.result c.leading.ensures.same c.leading.ensures.later c.leading-in-Some.ensures.same c.leading-in-Some.ensures.later
    c.split_at.result.0.now c.split_at.result.1.now c.split_at-in-Some.result.0.now c.split_at-in-Some.result.1.now c.split_at.ensures.front c.split_at.ensures.back c.split_at-in-Some.ensures.front c.split_at-in-Some.ensures.back
    c.push_both.new.rows.items c.in_ok-push_both.ensures).left_order

pub alone_count-requires-clause-right : goal.alone_count-requires-clause-right
alone_count-requires-clause-right c = (step_united c.args.first.now c.args.second.now c.loop-key.left.now c.loop-key.right.now c.loop-key.rows.items c.loop-key.invariant.0 c.in-Some.key c.in-Some.ensures.some
    c.leading.result c.leading-in-Some.result c.leading.ensures.same c.leading.ensures.later c.leading-in-Some.ensures.same c.leading-in-Some.ensures.later
    c.split_at.result.0.now c.split_at.result.1.now c.split_at-in-Some.result.0.now c.split_at-in-Some.result.1.now c.split_at.ensures.front c.split_at.ensures.back c.split_at-in-Some.ensures.front c.split_at-in-Some.ensures.back
    c.push_both.new.rows.items c.in_ok-push_both.ensures).right_order

pub returns-then-len-max_rows : goal.returns-then-len-max_rows
returns-then-len-max_rows c = taken_wide c.args.first.now c.args.second.now _ _ _ (step_united c.args.first.now c.args.second.now c.loop-key.left.now c.loop-key.right.now c.loop-key.rows.items c.loop-key.invariant.0 c.in-Some.key c.in-Some.ensures.some
    c.leading.result c.leading-in-Some.result c.leading.ensures.same c.leading.ensures.later c.leading-in-Some.ensures.same c.leading-in-Some.ensures.later
    c.split_at.result.0.now c.split_at.result.1.now c.split_at-in-Some.result.0.now c.split_at-in-Some.result.1.now c.split_at.ensures.front c.split_at.ensures.back c.split_at-in-Some.ensures.front c.split_at-in-Some.ensures.back
    c.push_both.new.rows.items c.in_ok-push_both.ensures) c.requires.first c.alone_count.result c.alone_count.ensures.first _ _ _ c.split_at-in-Some-2.ensures.front c.split_at-in-Some-2.ensures.back c.in_ok-push_rows.ensures c.args.max_rows (omega arith)

pub loop-key-smaller : goal.loop-key-smaller
loop-key-smaller c =
    let less = step_less c.args.first.now c.args.second.now c.loop-key.left.now c.loop-key.right.now c.loop-key.rows.items c.loop-key.invariant.0 c.in-Some.key c.in-Some.ensures.some
    c.leading.result c.leading-in-Some.result c.leading.ensures.same c.leading.ensures.later c.leading-in-Some.ensures.same c.leading-in-Some.ensures.later
    c.split_at.result.0.now c.split_at.result.1.now c.split_at-in-Some.result.0.now c.split_at-in-Some.result.1.now c.split_at.ensures.front c.split_at.ensures.back c.split_at-in-Some.ensures.front c.split_at-in-Some.ensures.back in
    let rest = taken_less c.args.first.now c.args.second.now _ _ _ (step_united c.args.first.now c.args.second.now c.loop-key.left.now c.loop-key.right.now c.loop-key.rows.items c.loop-key.invariant.0 c.in-Some.key c.in-Some.ensures.some
    c.leading.result c.leading-in-Some.result c.leading.ensures.same c.leading.ensures.later c.leading-in-Some.ensures.same c.leading-in-Some.ensures.later
    c.split_at.result.0.now c.split_at.result.1.now c.split_at-in-Some.result.0.now c.split_at-in-Some.result.1.now c.split_at.ensures.front c.split_at.ensures.back c.split_at-in-Some.ensures.front c.split_at-in-Some.ensures.back
    c.push_both.new.rows.items c.in_ok-push_both.ensures) c.requires.first c.alone_count.result c.alone_count.ensures.first _ _ _ c.split_at-in-Some-2.ensures.front c.split_at-in-Some-2.ensures.back c.in_ok-push_rows.ensures in
    omega (arith, less, rest)

pub loop-key-preserved : goal.loop-key-preserved
loop-key-preserved c = (
  taken_united c.args.first.now c.args.second.now _ _ _ (step_united c.args.first.now c.args.second.now c.loop-key.left.now c.loop-key.right.now c.loop-key.rows.items c.loop-key.invariant.0 c.in-Some.key c.in-Some.ensures.some
      c.leading.result c.leading-in-Some.result c.leading.ensures.same c.leading.ensures.later c.leading-in-Some.ensures.same c.leading-in-Some.ensures.later
      c.split_at.result.0.now c.split_at.result.1.now c.split_at-in-Some.result.0.now c.split_at-in-Some.result.1.now c.split_at.ensures.front c.split_at.ensures.back c.split_at-in-Some.ensures.front c.split_at-in-Some.ensures.back
      c.push_both.new.rows.items c.in_ok-push_both.ensures) c.requires.first c.alone_count.result c.alone_count.ensures.first _ _ _ c.split_at-in-Some-2.ensures.front c.split_at-in-Some-2.ensures.back c.in_ok-push_rows.ensures,
  omega arith,
)

pub invariant_of-result : goal.invariant_of-result
invariant_of-result c = relation_of (EitherHolds c.args.first.now c.args.second.now) c.loop-key.rows.items
    (all_united c.args.first.now c.args.second.now c.loop-key.left.now c.loop-key.right.now c.loop-key.rows.items c.in_default.ensures.none.0 c.in_default.ensures.none.1 c.loop-key.invariant.0) (c.loop-key.invariant.0).formed
