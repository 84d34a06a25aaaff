use Rattle.std.proofs.Common.{refl}
use Rattle.itpg_run.proofs.Underway.{takes_other}
use Rattle.itpg_run.proofs.trial.Running.step.Goals as goal

pub returns-clause-takes : goal.returns-clause-takes
returns-clause-takes c = λ held.
    let s = c.in_ok-pass.ensures.passed in
    takes_other c.law_of_replies.ensures.good held c.args.self.now _ c.args.line.now s.turn c.requires.others s.turns s.next refl refl
