use Rattle.wide_witness.proofs.Closing.{AreClosed}
use Rattle.wide_witness.proofs.by_source.closed_from.Given as goal

abbrev pub invariant-loop-count : goal.invariant-loop-count
invariant-loop-count l = AreClosed l.fn.one l.fn.onward l.fn.source.0 l.count l.most_rows l.known l.newest
