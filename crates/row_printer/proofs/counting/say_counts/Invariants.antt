use Rattle.std.proofs.Common.{◌≤◌, [], take}
use Rattle.row_printer.specs.Texts.{led, count_in}
use Rattle.row_printer.specs.Said.{Says}
use Rattle.row_printer.proofs.counting.say_counts.Given as goal

abbrev pub invariant-loop-row : goal.invariant-loop-row
invariant-loop-row g l = record {
  said : Says (g.K.Sink.held l.initial.out) (g.K.Sink.held l.out) l.initial.page l.page (led [] (count_in l.form) (take l.row-index l.rows));
  later : g.K.Sink.faults l.initial.out ≤ g.K.Sink.faults l.out;
}
