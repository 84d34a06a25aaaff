use Rattle.std.proofs.Common.{◌≤◌, length}
use Rattle.explanations.proofs.lines.Lines.feed.Given as goal

abbrev pub invariant-loop-end : goal.invariant-loop-end
invariant-loop-end g l = record {
  within : length l.rest ≤ length l.bytes;
  later : g.K.Sink.faults l.initial.out ≤ g.K.Sink.faults l.out;
}

abbrev pub decreases-loop-end : goal.decreases-loop-end
decreases-loop-end g l = length l.rest
