use Rattle.std.proofs.Common.{inl, inr, ⊎_elim}
use Rattle.relation_rows.proofs.Pushing.{items_more}
use Rattle.path_eval.proofs.axes.push_step.Goals as goal

pub returns-in_ok-push : goal.returns-in_ok-push
returns-in_ok-push c x y =
    let within = c.is_within.ensures.0 c.if-is_within.true in
    let more = items_more c.args.items.now.items c.push.new.self.items _ c.in_ok-push.ensures.items x y in (
      λ h. ⊎_elim (λ a. inl a) (λ b. inr (record { stands = c.standing.ensures.0 c.if-standing.true; within = within; item = b })) (more.0 h),
      λ h. ⊎_elim (λ a. more.1 (inl a)) (λ b. more.1 (inr b.item)) h,
    )
