use Rattle.std.proofs.Common.{◌≡◌, ◌+◌, ◌%◌, ◌^◌, sum, take}
use Rattle.itpg_base.proofs.tally_sink.TallySinkSink.write.Given as goal

abbrev pub invariant-loop-byte : goal.invariant-loop-byte
invariant-loop-byte l = (l.self-inside.bytes ≡ (l.fn.self.bytes + l.byte-index) % 2 ^ 64) × (l.self-inside.sum ≡ (l.fn.self.sum + sum (take l.byte-index l.piece)) % 2 ^ 64)
