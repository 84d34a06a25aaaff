use Rattle.std.proofs.Common.{◌≡◌, get_or, arith, true, sym, ◌∙◌}
use Rattle.std.proofs.lemmas.Int.Digits.{digits_value_more}
use Rattle.std.proofs.lemmas.Bool.{and_from}
use Rattle.std.proofs.lemmas.List.Folds.{list_all_more}
use Rattle.std.specs.Char.{is_ascii_digit}
use Rattle.script_lex.proofs.Digits.{digit_is}
use Rattle.json_port.proofs.lexemes.digits.Goals as goal

pub loop-byte-preserved : goal.loop-byte-preserved
loop-byte-preserved c =
    let text = c.args.text.now in
    let i = c.loop-byte.byte-index in
    let told : is_ascii_digit (get_or c.args.text.now c.loop-byte.byte-index 0) ≡ true = sym c.is_ascii_digit.ensures.value ∙ c.if-not-is_ascii_digit.false in
    let more = digits_value_more 10 c.args.text.now c.loop-byte.byte-index c.loop-byte-test.true in
    let digit = digit_is (get_or c.args.text.now c.loop-byte.byte-index 0) told in
    record {
      len = omega (arith, c.loop-byte.invariant.len);
      value = omega (arith, more, digit, c.loop-byte.invariant.value, c.from.ensures);
      digits = list_all_more is_ascii_digit text i 0 c.loop-byte-test.true ∙ and_from _ _ c.loop-byte.invariant.digits told;
      most = omega (arith, c.if-value-gt-MOST.false);
    }
