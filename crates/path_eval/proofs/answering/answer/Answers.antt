use Rattle.std.proofs.Common.{refl}
use Rattle.path_eval.proofs.Answers.{of_last}
use Rattle.path_eval.proofs.answering.answer.Goals as goal

pub returns-in-true-true-clause-answer : goal.returns-in-true-true-clause-answer
returns-in-true-true-clause-answer c = rw (c.in-true-true.is-0, c.in-true-true.is-1) refl

pub returns-in_ok-sources-in-true-false-clause-answer : goal.returns-in_ok-sources-in-true-false-clause-answer
returns-in_ok-sources-in-true-false-clause-answer c = rw (c.in-true-false.is-0, c.in-true-false.is-1) (rw c.deref.ensures at c.in_ok-sources-in-true-false.ensures.times)

pub returns-in_ok-targets-in-false-default-clause-answer : goal.returns-in_ok-targets-in-false-default-clause-answer
returns-in_ok-targets-in-false-default-clause-answer c =
    let times = rw c.deref-in-false-default.ensures at c.in_ok-targets-in-false-default.ensures.times in
    rw c.in-false-default.is-0 (of_last c.args.last c.args.rel.value _ (rw c.in-false-default.is-0 at c.requires) times)
