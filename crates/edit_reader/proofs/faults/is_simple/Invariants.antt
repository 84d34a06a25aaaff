use Rattle.std.proofs.Common.{◌≡◌, ℕ, ◌<◌, true, get_or}
use Rattle.edit_reader.specs.Simple.{is_simple_byte}
use Rattle.edit_reader.proofs.faults.is_simple.Given as goal

abbrev pub invariant-loop-byte : goal.invariant-loop-byte
invariant-loop-byte l = (k : ℕ) → k < l.byte-index → is_simple_byte (get_or l.line k 0) ≡ true
