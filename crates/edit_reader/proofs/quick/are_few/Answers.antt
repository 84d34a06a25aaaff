use Rattle.std.proofs.Common.{arith}
use Rattle.edit_reader.proofs.SimpleLines.{tokens_few}
use Rattle.edit_reader.proofs.quick.are_few.Goals as goal

pub returns-then-line-le-MAX_TOKENS-clause-few : goal.returns-then-line-le-MAX_TOKENS-clause-few
returns-then-line-le-MAX_TOKENS-clause-few c = λ short tokens end are.
    let few = tokens_few c.args.line.now 0 tokens end (omega arith) are in
    let bytes = c.if-line-le-MAX_TOKENS.true in
    omega (arith, few, bytes)
