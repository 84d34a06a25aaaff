use Rattle.std.proofs.Common.{◌≡◌, length}
use Rattle.itpg_base.specs.Outside.{AppendsSome}
use Rattle.itpg_base.proofs.std_streams.StdSinkSink.write.Given as goal

abbrev pub invariant-loop-rest : goal.invariant-loop-rest
invariant-loop-rest g l = (some : AppendsSome (g.W.Write.contents l.initial.self.inner) (g.W.Write.contents l.self.inner) l.piece) × (some.rest ≡ l.rest) × (l.self.faults ≡ l.initial.self.faults)

abbrev pub decreases-loop-rest : goal.decreases-loop-rest
decreases-loop-rest g l = length l.rest
