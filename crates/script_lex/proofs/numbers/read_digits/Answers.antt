use Rattle.std.proofs.Common.{◌+◌, get_or, arith}
use Rattle.std.proofs.lemmas.Int.Digits.{digits_value_more}
use Rattle.std.proofs.lemmas.Str.Parse.{digits_value-take-le}
use Rattle.script_lex.proofs.Digits.{digit_is, digit_at}
use Rattle.script_lex.proofs.numbers.read_digits.Goals as goal

pub returns-then-value-gt-MAX_NUMBER : goal.returns-then-value-gt-MAX_NUMBER
returns-then-value-gt-MAX_NUMBER c =
    let xs = c.args.digits.now in
    let i = c.loop-digit.digit-index in
    let more = digits_value_more 10 c.args.digits.now c.loop-digit.digit-index c.loop-digit-test.true in
    let digit = digit_is (get_or c.args.digits.now c.loop-digit.digit-index 0) (digit_at c.args.digits.now c.loop-digit.digit-index c.requires c.loop-digit-test.true) in
    let grows = digits_value-take-le 10 c.args.digits.now (c.loop-digit.digit-index + 1) (omega arith) in
    λ small. omega (arith, more, digit, grows, c.loop-digit.invariant.value, c.from.ensures, c.if-value-gt-MAX_NUMBER.true)

pub loop-digit-preserved : goal.loop-digit-preserved
loop-digit-preserved c =
    let more = digits_value_more 10 c.args.digits.now c.loop-digit.digit-index c.loop-digit-test.true in
    let digit = digit_is (get_or c.args.digits.now c.loop-digit.digit-index 0) (digit_at c.args.digits.now c.loop-digit.digit-index c.requires c.loop-digit-test.true) in
    record { value = omega (arith, more, digit, c.loop-digit.invariant.value, c.from.ensures); small = omega arith }
