-- The kinds of bytes that tokens are made of.
use Rattle.std.specs.Prelude.{ℕ, Bool, not, false, ◌&&◌, ◌||◌, nat_eq, nat_le, List, [], ◌∷◌}
use Rattle.std.specs.Char.{is_ascii_alphanumeric, is_ascii_digit}
use Rattle.script_lex.specs.declared.bytes.Class.{Class}
use Rattle.script_lex.specs.declared.bytes.Class.TheVariants.{Blank, Word, Digit, Plain}

-- a space or a tab
abbrev pub is_blank : ℕ → Bool
is_blank b = nat_eq b 32 || nat_eq b 9

-- an ASCII letter, a digit or `_`
abbrev pub is_word_byte : ℕ → Bool
is_word_byte b = is_ascii_alphanumeric b || nat_eq b 95

-- what may stand between quotes: 0x20 to 0x7E, but no quote
abbrev pub is_plain : ℕ → Bool
is_plain b = nat_le 32 b && nat_le b 126 && not (nat_eq b 39)

-- the byte is of this kind
abbrev pub is_in : Class → ℕ → Bool
is_in Blank = is_blank
is_in Word = is_word_byte
is_in Digit = is_ascii_digit
is_in Plain = is_plain

-- the first of the bytes passes the test
abbrev pub begins_with : (ℕ → Bool) → List ℕ → Bool
begins_with test [] = false
begins_with test (b ∷ bs) = test b
