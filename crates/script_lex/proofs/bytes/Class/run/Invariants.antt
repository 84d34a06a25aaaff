use Rattle.std.proofs.Common.{◌≡◌, ℕ, ◌<◌, true, get_or}
use Rattle.script_lex.specs.Bytes.{is_in}
use Rattle.script_lex.proofs.bytes.Class.run.Given as goal

abbrev pub invariant-loop-i : goal.invariant-loop-i
invariant-loop-i l = (k : ℕ) → k < l.i → is_in l.self (get_or l.bytes k 0) ≡ true
