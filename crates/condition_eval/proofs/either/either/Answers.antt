use Rattle.std.proofs.Common.{sym, true≢false}
use Rattle.condition_eval.proofs.Merging.{merged_start, merged_left, merged_right, left_added, right_added}
use Rattle.condition_eval.proofs.either.either.Goals as goal

pub loop-row-init : goal.loop-row-init
loop-row-init c = merged_start c.args.own.now c.args.other.now _ c.requires.own c.requires.other c.in_ok-rows.ensures.items

pub loop-row-preserved-then-begins_up_to : goal.loop-row-preserved-then-begins_up_to
loop-row-preserved-then-begins_up_to c =
    merged_left _ _ _ _ _ _ _ _ _ c.in-Some.ensures.cases.0 c.in-Some-split_first.ensures.cases.0 c.loop-row.invariant (c.begins_up_to.ensures.0 c.if-begins_up_to.true) _ c.in_ok-push_joined.ensures

pub loop-row-preserved : goal.loop-row-preserved
loop-row-preserved c =
    merged_right _ _ _ _ _ _ _ _ _ c.in-Some.ensures.cases.0 c.in-Some-split_first.ensures.cases.0 c.loop-row.invariant (λ up. true≢false (sym (c.if-begins_up_to.ensures.1 up))) _ c.in_ok-push_joined-2.ensures

pub returns-in_default-split_first : goal.returns-in_default-split_first
returns-in_default-split_first c = left_added _ _ _ _ _ c.loop-row.invariant _ c.in_default-split_first.ensures.cases c.in_ok-push_all.ensures

pub returns : goal.returns
returns c = right_added _ _ _ _ _ c.loop-row.invariant _ c.in_default.ensures.cases c.in_ok-push_all-2.ensures
