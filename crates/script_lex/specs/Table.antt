-- The table of tokens: which token some bytes begin with.
use Rattle.std.specs.Prelude.{ℕ, List, [], ◌∷◌, Bool, false, ◌&&◌, ◌||◌, nat_eq, if◌then◌else◌, drop, Option, Some, None, option_map}
use Rattle.std.specs.Char.{is_ascii_alphabetic, is_ascii_digit}
use Rattle.std.specs.List.{prefix_len, take_while, list_all}
use Rattle.itpg_base.specs.declared.text_code.TextCode.{TextCode}
use Rattle.itpg_base.specs.declared.text_code.TextCode.TheVariants.{Byte, Text}
use Rattle.script_lex.specs.Bytes.{is_word_byte, is_plain, begins_with}
use Rattle.script_lex.specs.Marks.{first_mark, double_marks, single_marks}
use Rattle.script_lex.specs.Lexemes.{Lexeme, AWord, ANumber, AQuote, AMark}

-- a letter, then as many word bytes as follow
abbrev pub word_row : List ℕ → Option Lexeme
word_row [] = None
word_row (b ∷ bs) = if is_ascii_alphabetic b then Some (AWord (b ∷ take_while is_word_byte bs)) else None

-- a digit, or a `-` directly before a digit
abbrev pub begins_number : List ℕ → Bool
begins_number [] = false
begins_number (b ∷ bs) = is_ascii_digit b || (nat_eq b 45 && begins_with is_ascii_digit bs)

-- that, then as many digits as follow
abbrev pub number_row : List ℕ → Option Lexeme
number_row [] = None
number_row (b ∷ bs) = if begins_number (b ∷ bs) then Some (ANumber (b ∷ take_while is_ascii_digit bs)) else None

-- a quote, then plain bytes, then a quote
abbrev pub quoted_row : List ℕ → Option Lexeme
quoted_row [] = None
quoted_row (b ∷ bs) =
    if nat_eq b 39 && begins_with (λ c. nat_eq c 39) (drop (prefix_len is_plain bs) bs) then Some (AQuote (take_while is_plain bs)) else None

-- a mark of two bytes
abbrev pub double_row : List ℕ → Option Lexeme
double_row bytes = option_map AMark (first_mark double_marks bytes)

-- a mark of one byte
abbrev pub single_row : List ℕ → Option Lexeme
single_row bytes = option_map AMark (first_mark single_marks bytes)

-- the first that is there
abbrev pub first_some : {X : Type 0} → List (Option X) → Option X
first_some [] = None
first_some (None ∷ rest) = first_some rest
first_some (Some x ∷ rest) = Some x

-- the token that the bytes begin with: that of the first row that fits
unfoldable pub first_token : List ℕ → Option Lexeme
first_token bytes = first_some (word_row bytes ∷ number_row bytes ∷ quoted_row bytes ∷ double_row bytes ∷ single_row bytes ∷ [])

-- where none does, what is wrong: a quoted text that reaches the end of the line, or else a byte
abbrev pub fault_of : List ℕ → TextCode
fault_of [] = Byte
fault_of (b ∷ bs) = if nat_eq b 39 && list_all is_plain bs then Text else Byte
