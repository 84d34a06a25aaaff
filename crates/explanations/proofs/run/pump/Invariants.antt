use Rattle.std.proofs.Common.{◌-◌, ◌≤◌}
use Rattle.explanations.specs.Ends.{longest}
use Rattle.explanations.specs.Pumping.{Taking}
use Rattle.explanations.proofs.run.pump.Given as goal

abbrev pub invariant-chunks : goal.invariant-chunks
invariant-chunks g l = record {
  fits : l.taken ≤ longest;
  later : g.K.Sink.faults l.initial.sink ≤ g.K.Sink.faults l.sink;
  source_later : g.S.Source.faults l.initial.source ≤ g.S.Source.faults l.source;
  taking : Taking (g.S.Source.left l.initial.source) (g.S.Source.left l.source) l.taken;
}

abbrev pub decreases-chunks : goal.decreases-chunks
decreases-chunks g l = longest - l.taken
