use Rattle.std.proofs.Common.{◌≡◌, ◌-◌, ◌≤◌, length, drop}
use Rattle.json_port.specs.Flats.{are_ascii}
use Rattle.json.specs.Lex.{lex, between}
use Rattle.json_port.proofs.lexemes.behind_blanks.Given as goal

abbrev pub invariant-loop-i : goal.invariant-loop-i
invariant-loop-i l = (lex between (drop l.i l.text) ≡ lex between l.text) × (l.i ≤ length l.text) × (are_ascii (drop l.i l.text) ≡ are_ascii l.text)

abbrev pub decreases-loop-i : goal.decreases-loop-i
decreases-loop-i l = length l.text - l.i
