use Rattle.std.proofs.Common.{◌≡◌, ◌≤◌, take, true}
use Rattle.std.specs.List.{list_all}
use Rattle.std.specs.Char.{is_ascii_digit}
use Rattle.std.specs.Str.Parse.{digits_value}
use Rattle.json_port.specs.declared.lexemes.TheConstants.{MOST}
use Rattle.json_port.proofs.lexemes.digits.Given as goal

abbrev pub invariant-loop-byte : goal.invariant-loop-byte
invariant-loop-byte l = record {
  len : l.len ≡ l.byte-index;
  value : l.value ≡ digits_value 10 (take l.byte-index l.text);
  digits : list_all is_ascii_digit (take l.byte-index l.text) ≡ true;
  most : l.value ≤ MOST;
}
