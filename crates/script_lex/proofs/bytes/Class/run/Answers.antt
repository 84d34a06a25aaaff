use Rattle.std.proofs.Common.{length, sym, ◌∙◌, arith}
use Rattle.std.proofs.lemmas.List.Sums.{prefix_len_is}
use Rattle.script_lex.specs.Bytes.{is_in}
use Rattle.script_lex.proofs.bytes.Class.run.Goals as goal

pub returns-then-not-has-clause-run : goal.returns-then-not-has-clause-run
returns-then-not-has-clause-run c =
    let p = is_in c.args.self in
    sym (prefix_len_is p c.args.bytes.now c.loop-i.i 0 (omega arith) c.loop-i.invariant (λ _. sym c.has.ensures ∙ c.if-not-has.true))

pub returns-clause-run : goal.returns-clause-run
returns-clause-run c =
    let p = is_in c.args.self in
    sym (prefix_len_is p c.args.bytes.now (length c.args.bytes.now) 0 (omega arith) (λ k h. c.loop-i.invariant k (omega arith)) (λ h. absurd (omega arith)))
