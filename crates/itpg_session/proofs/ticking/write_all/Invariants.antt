use Rattle.std.proofs.Common.{◌≤◌, map, take}
use Rattle.itpg_base.specs.Sinks.{Gets}
use Rattle.itpg_session.specs.Ticks.{ticked_of}
use Rattle.itpg_session.specs.Texts.{tick_text}
use Rattle.itpg_session.proofs.ticking.write_all.Given as goal

abbrev pub invariant-loop-one : goal.invariant-loop-one
invariant-loop-one g l = record {
  written : Gets g.K.Sink l.initial.out l.out (tick_text l.form l.graph (take l.one-index (map ticked_of l.found)));
  later : g.K.Sink.faults l.initial.out ≤ g.K.Sink.faults l.out;
}
