use Rattle.std.proofs.Common.{◌≡◌, ◌≤◌, take}
use Rattle.script_lex.specs.declared.numbers.TheConstants.{MAX_NUMBER}
use Rattle.std.specs.Str.Parse.{digits_value}
use Rattle.script_lex.proofs.numbers.read_digits.Given as goal

abbrev pub invariant-loop-digit : goal.invariant-loop-digit
invariant-loop-digit l = record {
  value : l.value ≡ digits_value 10 (take l.digit-index l.digits);
  small : l.value ≤ MAX_NUMBER;
}
