use Rattle.std.proofs.Common.{length, arith, sym}
use Rattle.std.proofs.lemmas.List.Sums.{prefix_len_is}
use Rattle.script_lex.proofs.Runs.{run_whole}
use Rattle.edit_reader.specs.Simple.{is_simple_byte}
use Rattle.edit_reader.proofs.faults.is_simple.Goals as goal

pub returns : goal.returns
returns c =
    let whole = prefix_len_is is_simple_byte c.args.line.now (length c.args.line.now) 0 (omega arith) (λ k h. c.loop-byte.invariant k (omega arith)) (λ h. absurd (omega arith)) in
    sym (run_whole is_simple_byte c.args.line.now (omega arith))
