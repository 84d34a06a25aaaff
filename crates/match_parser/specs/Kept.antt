-- What is kept of a word and a number: themselves, where a query can have them. No public clause names this.
use Rattle.std.specs.Prelude.{ℕ, ℤ, pos, Bool, not, ◌&&◌, nat_eq, nat_le, List, [], length, if◌then◌else◌}
use Rattle.std.specs.Char.{is_ascii_digit}
use Rattle.std.specs.List.{list_all}
use Rattle.std.specs.Str.Parse.{digits_value}
use Rattle.script_lex.specs.Numbers.{digits_of, number_value}
use Rattle.script_lex.specs.declared.numbers.TheConstants.{MAX_NUMBER}
use Rattle.itpg_base.specs.declared.name.TheConstants.{MAX_NAME}

-- the word, where it is no longer than a name may be
unfoldable pub kept_name : List ℕ → List ℕ
kept_name w = if nat_le (length w) MAX_NAME then w else []

-- the bytes are a number: one digit or more, with or without a `-` before them
abbrev pub is_number : List ℕ → Bool
is_number n = not (nat_eq (length (digits_of n)) 0) && list_all is_ascii_digit (digits_of n)

-- one from -10^12 to 10^12
abbrev pub is_tame : List ℕ → Bool
is_tame n = is_number n && nat_le (digits_value 10 (digits_of n)) MAX_NUMBER

-- the number, where it is
unfoldable pub kept_value : List ℕ → ℤ
kept_value n = if is_tame n then number_value n else pos 0

-- the number without its sign, where it is
unfoldable pub kept_count : List ℕ → ℕ
kept_count n = if is_tame n then digits_value 10 (digits_of n) else 0
