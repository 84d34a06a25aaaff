use Rattle.std.proofs.Common.{◌+◌, ◌≤◌, length}
use Rattle.itpg_run.specs.Underway.{Underway}
use Rattle.itpg_run.proofs.trial.run_trial.Given as goal

abbrev pub invariant-loop-running : goal.invariant-loop-running
invariant-loop-running g l = record {
  underway : Underway l.fn.limits l.fn.number (g.K.Sink.held l.initial.out) (g.K.Sink.held l.out) l.running l.trial;
  few : l.running.question + length l.trial ≤ 6001;
  later : g.K.Sink.faults l.initial.out ≤ g.K.Sink.faults l.out;
}

abbrev pub decreases-loop-running : goal.decreases-loop-running
decreases-loop-running g l = length l.trial
