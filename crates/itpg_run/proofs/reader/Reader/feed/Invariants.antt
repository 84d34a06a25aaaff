use Rattle.std.proofs.Common.{◌≡◌, ◌+◌, ◌≤◌, ℕ, List, ◌++◌, length}
use Rattle.itpg_run.specs.Fed.{Feeds}
use Rattle.itpg_run.proofs.reader.Reader.feed.Given as goal

abbrev pub invariant-loop-end : goal.invariant-loop-end
invariant-loop-end g l = record {
  done : List ℕ;
  split : done ++ l.rest ≡ l.bytes;
  number : l.self.number ≤ l.initial.self.number + length done;
  fed : Feeds (g.K.Sink.held l.initial.out) (g.K.Sink.held l.out) l.initial.self l.self done;
  later : g.K.Sink.faults l.initial.out ≤ g.K.Sink.faults l.out;
}

abbrev pub decreases-loop-end : goal.decreases-loop-end
decreases-loop-end g l = length l.rest
