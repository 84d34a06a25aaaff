use Rattle.std.proofs.Common.{◌≡◌, ℕ, ◌<◌, true, get_or}
use Rattle.script_lex.specs.Bytes.{is_blank}
use Rattle.edit_reader.proofs.faults.is_silent.Given as goal

abbrev pub invariant-loop-byte : goal.invariant-loop-byte
invariant-loop-byte l = (k : ℕ) → k < l.byte-index → is_blank (get_or l.line k 0) ≡ true
