-- The number that a number token writes.
use Rattle.std.specs.Prelude.{ℕ, ◌<◌, ℤ, pos, neg_ℤ, List, length, drop, nat_eq, slice_index, IsTrue, if◌then◌else◌}
use Rattle.std.specs.Char.{is_ascii_digit}
use Rattle.std.specs.List.{list_all}
use Rattle.std.specs.Str.Parse.{digits_value}
use Rattle.script_lex.specs.Lexemes.{Lexeme, AWord, ANumber, AQuote, AMark}

-- the digits: what stands behind a `-`, or all
abbrev pub digits_of : List ℕ → List ℕ
digits_of number = if nat_eq (slice_index number 0) 45 then drop 1 number else number

-- one digit or more, with or without a `-` before them
pub record IsNumber (number : List ℕ) : Type 0 where
  pub some : 0 < length (digits_of number)
  pub digits : IsTrue (list_all is_ascii_digit (digits_of number))

-- the number, in tens, below zero where a `-` stands first
abbrev pub number_value : List ℕ → ℤ
number_value number = if nat_eq (slice_index number 0) 45 then neg_ℤ (pos (digits_value 10 (digits_of number))) else pos (digits_value 10 (digits_of number))

-- a number token has the bytes of a number
abbrev pub HasNumber : Lexeme → Type 0
HasNumber (ANumber number) = IsNumber number
HasNumber (AWord word) = Unit {0}
HasNumber (AQuote text) = Unit {0}
HasNumber (AMark mark) = Unit {0}
