use Rattle.std.proofs.Common.{ℕ, List, [], ◌+◌, ◌-◌, ◌≤◌}
use Rattle.std.specs.declared.option.Option.{Option}
use Rattle.itpg_run.specs.Out.{Mode}
use Rattle.itpg_run.specs.Fed.{Fed}
use Rattle.itpg_run.specs.Pumped.{Pumping}
use Rattle.itpg_run.specs.Served.{longest}
use Rattle.itpg_run.proofs.run.pump.Given as goal

abbrev pub invariant-chunks : goal.invariant-chunks
invariant-chunks g l = record {
  fits : l.taken ≤ longest;
  number : l.reader.number ≤ 1 + l.taken;
  later : g.K.Sink.faults l.initial.sink ≤ g.K.Sink.faults l.sink;
  source_later : g.S.Source.faults l.initial.source ≤ g.S.Source.faults l.source;
  pumping : (mode : Mode) (start : Option (List ℕ)) → Fed mode start (g.K.Sink.held l.initial.sink) l.initial.reader [] → Pumping mode (g.S.Source.left l.initial.source) (g.S.Source.left l.source) start (g.K.Sink.held l.sink) l.reader l.taken;
}

abbrev pub decreases-chunks : goal.decreases-chunks
decreases-chunks g l = longest - l.taken
