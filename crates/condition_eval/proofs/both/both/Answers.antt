use Rattle.std.proofs.Common.{sym, true≢false}
use Rattle.condition_eval.proofs.Sharing.{shared_start, shared_left, shared_right, left_ends, right_ends}
use Rattle.condition_eval.proofs.both.both.Goals as goal

pub loop-row-init : goal.loop-row-init
loop-row-init c = shared_start c.args.own.now c.args.other.now _ c.requires.own c.requires.other c.in_ok-rows.ensures.items

pub loop-row-preserved-then-ends_up_to : goal.loop-row-preserved-then-ends_up_to
loop-row-preserved-then-ends_up_to c =
    shared_left _ _ _ _ _ _ _ _ _ _ c.in-Some.ensures.cases.0 c.in-Some-split_first.ensures.cases.0 c.in_ok-push_shared.ensures c.loop-row.invariant (c.ends_up_to.ensures.0 c.if-ends_up_to.true)

pub loop-row-preserved : goal.loop-row-preserved
loop-row-preserved c =
    shared_right _ _ _ _ _ _ _ _ _ _ c.in-Some.ensures.cases.0 c.in-Some-split_first.ensures.cases.0 c.in_ok-push_shared.ensures c.loop-row.invariant (λ up. true≢false (sym (c.if-ends_up_to.ensures.1 up)))

pub returns-in_default-split_first : goal.returns-in_default-split_first
returns-in_default-split_first c = right_ends _ _ _ _ _ c.loop-row.invariant c.in_default-split_first.ensures.cases

pub returns : goal.returns
returns c = left_ends _ _ _ _ _ c.loop-row.invariant c.in_default.ensures.cases
