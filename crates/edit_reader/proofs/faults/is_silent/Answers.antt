use Rattle.std.proofs.Common.{◌≡◌, length, false, get_or, arith}
use Rattle.std.proofs.lemmas.Bool.Decides.{nat_tests}
use Rattle.std.proofs.lemmas.List.Sums.{prefix_len_is}
use Rattle.script_lex.specs.Bytes.{is_blank}
use Rattle.edit_reader.proofs.Silence.{silent_by_byte, silent_by_end}
use Rattle.edit_reader.proofs.faults.is_silent.Goals as goal

pub returns-then-byte-ne9 : goal.returns-then-byte-ne9
returns-then-byte-ne9 c =
    let other : is_blank (get_or c.args.line.now c.loop-byte.byte-index 0) ≡ false = grind (arith, nat_tests) in
    silent_by_byte c.args.line.now c.loop-byte.byte-index c.loop-byte-test.true
    (prefix_len_is is_blank c.args.line.now c.loop-byte.byte-index 0 (omega arith) c.loop-byte.invariant (λ _. other))

pub returns : goal.returns
returns c =
    silent_by_end c.args.line.now
    (prefix_len_is is_blank c.args.line.now (length c.args.line.now) 0 (omega arith) (λ k h. c.loop-byte.invariant k (omega arith)) (λ h. absurd (omega arith)))
