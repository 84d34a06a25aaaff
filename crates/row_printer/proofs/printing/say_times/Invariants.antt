use Rattle.std.proofs.Common.{◌≤◌, take}
use Rattle.row_printer.specs.Texts.{led, time_in}
use Rattle.row_printer.specs.Said.{Says}
use Rattle.row_printer.proofs.printing.say_times.Given as goal

abbrev pub invariant-loop-row : goal.invariant-loop-row
invariant-loop-row g l = record {
  said : Says (g.K.Sink.held l.initial.out) (g.K.Sink.held l.out) l.initial.page l.page (led l.lead (time_in l.form l.graph) (take l.row-index l.rows));
  later : g.K.Sink.faults l.initial.out ≤ g.K.Sink.faults l.out;
}
