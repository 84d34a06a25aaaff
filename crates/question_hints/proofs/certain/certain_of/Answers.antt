use Rattle.std.proofs.Common.{◌+◌, sym, ap, subst, ◌∙◌, true≢false}
use Rattle.question_hints.proofs.Kept.{AreSoFar, certain_taken, other_left, all_taken}
use Rattle.question_hints.proofs.certain.certain_of.Goals as goal
use Rattle.question_hints.proofs.certain.certain_of.Goals.{then-is_certain+in_ok-push, else-is_certain}
use Rattle.std.proofs.lemmas.List.{drop_all}

pub loop-hint-preserved : goal.loop-hint-preserved
loop-hint-preserved c = elim c.if-is_certain.branch [
  | then-is_certain+in_ok-push w ↦
      subst (AreSoFar c.args.graph.now c.args.asked.now (c.loop-hint.hint-index + 1)) (sym (ap (λ v. v.items) w.hints-is ∙ w.in_ok-push.ensures.items))
      (certain_taken c.args.graph.now c.args.asked.now c.loop-hint.hints.items c.loop-hint.hint-index c.hint-item.result c.loop-hint-test.true (sym c.hint-item.is) (c.is_certain.ensures.0 w.if-is_certain.true) c.loop-hint.invariant)
  | else-is_certain w ↦
      subst (AreSoFar c.args.graph.now c.args.asked.now (c.loop-hint.hint-index + 1)) (sym (ap (λ v. v.items) w.hints-is))
      (other_left c.args.graph.now c.args.asked.now c.loop-hint.hints.items c.loop-hint.hint-index c.hint-item.result c.loop-hint-test.true (sym c.hint-item.is) (λ h. true≢false (sym (c.is_certain.ensures.1 h) ∙ w.if-is_certain.false)) c.loop-hint.invariant)
]

pub returns : goal.returns
returns c = all_taken c.args.graph.now c.args.asked.now c.loop-hint.hints.items c.loop-hint.hint-index (drop_all c.loop-hint.hint-index c.args.asked.now c.loop-hint-test.false) c.loop-hint.invariant
