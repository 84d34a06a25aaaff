-- What can be wrong with a line.
use Rattle.std.specs.Prelude.{◌≡◌, ◌⊎◌, ℕ, ◌<◌, ◌-◌, Bool, ◌||◌, nat_eq, if◌then◌else◌, List, [], ◌∷◌, length, take, drop, slice_index, Option, Some, None, IsFalse}
use Rattle.std.specs.List.{list_all, prefix_len}
use Rattle.itpg_base.specs.Spans.{IsMoment}
use Rattle.itpg_base.specs.declared.text_code.TextCode.{TextCode}
use Rattle.itpg_base.specs.declared.name.TheConstants.{MAX_NAME}
use Rattle.edit_reader.specs.declared.reading.TheConstants.{MAX_LINE}
use Rattle.script_lex.specs.declared.token.TheConstants.{MAX_TOKENS}
use Rattle.script_lex.specs.Bytes.{is_blank, begins_with}
use Rattle.script_lex.specs.Lexemes.{Lexeme, AWord, ANumber, AQuote, AMark}
use Rattle.script_lex.specs.Lines.{Placed, AreTokens}
use Rattle.script_lex.specs.Numbers.{number_value}
use Rattle.edit_reader.specs.Forms.{form_of, parts_of}

-- the line without its last byte where that is a CR
abbrev pub without_end : List ℕ → List ℕ
without_end line = if nat_eq (slice_index line (length line - 1)) 13 then take (length line - 1) line else line

-- nothing but blanks, or a comment: the first byte that is no blank is `#`
abbrev pub is_silent : List ℕ → Bool
is_silent line = list_all is_blank line || begins_with (λ b. nat_eq b 35) (drop (prefix_len is_blank line) line)

-- the line is neither blank nor a comment, and this holds of its tokens and of how they end
abbrev pub OfTokens : List ℕ → (List Placed → Option TextCode → Type 0) → Type 0
OfTokens line P = IsFalse (is_silent line) × ((tokens : List Placed) × ((end : Option TextCode) × (AreTokens line 0 tokens end × P tokens end)))

-- some number of these tokens is no moment
abbrev pub HasFarNumber : List Lexeme → Type 0
HasFarNumber [] = ⊥
HasFarNumber (ANumber number ∷ rest) = (¬ IsMoment (number_value number)) ⊎ HasFarNumber rest
HasFarNumber (AWord word ∷ rest) = HasFarNumber rest
HasFarNumber (AQuote text ∷ rest) = HasFarNumber rest
HasFarNumber (AMark mark ∷ rest) = HasFarNumber rest

-- some word or quoted text of these tokens is longer than a name may be
abbrev pub HasLongName : List Lexeme → Type 0
HasLongName [] = ⊥
HasLongName (AWord word ∷ rest) = (MAX_NAME < length word) ⊎ HasLongName rest
HasLongName (AQuote text ∷ rest) = (MAX_NAME < length text) ⊎ HasLongName rest
HasLongName (ANumber number ∷ rest) = HasLongName rest
HasLongName (AMark mark ∷ rest) = HasLongName rest

-- the line, which is taken without its end, has this fault
abbrev pub HasFault : List ℕ → TextCode → Type 0
-- it has too many bytes
HasFault line TextCode.Long = MAX_LINE < length line
-- it is neither blank nor a comment, as for all that follow, and its tokens end at a bad byte
HasFault line TextCode.Byte = OfTokens line (λ tokens end. end ≡ Some TextCode.Byte)
-- there are too many tokens
HasFault line TextCode.Tokens = OfTokens line (λ tokens end. MAX_TOKENS < length tokens)
-- a quoted text isn't closed, or the tokens are no form
HasFault line TextCode.Text = OfTokens line (λ tokens end. (end ≡ Some TextCode.Text) ⊎ (form_of line tokens ≡ None))
-- a number of the form is no moment
HasFault line TextCode.Number = OfTokens line (λ tokens end. HasFarNumber (parts_of tokens))
-- a word or a quoted text of the form is too long for a name
HasFault line TextCode.Name = OfTokens line (λ tokens end. HasLongName (parts_of tokens))
-- the other codes are those of query texts
HasFault line _ = ⊥
