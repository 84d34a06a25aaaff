use Rattle.std.proofs.Common.{◌≡◌}
use Rattle.trial_script.specs.Left.{left_persons}
use Rattle.trial_script.proofs.trial.next_sign.Given as goal

abbrev pub invariant-loop-person : goal.invariant-loop-person
invariant-loop-person l = left_persons l.from l.number ≡ left_persons l.person l.state
