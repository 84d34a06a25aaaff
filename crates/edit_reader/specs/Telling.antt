-- What a line is, worked out from its tokens: no public clause names what stands here.
use Rattle.std.specs.Prelude.{ℕ, Bool, true, false, nat_lt, nat_le, List, [], ◌∷◌, length, Option, Some, None, Ok, Err, if◌then◌else◌}
use Rattle.itpg_base.specs.declared.text_code.TextCode.{TextCode}
use Rattle.itpg_base.specs.declared.name.TheConstants.{MAX_NAME}
use Rattle.script_lex.specs.declared.token.TheConstants.{MAX_TOKENS}
use Rattle.script_lex.specs.Lexemes.{Lexeme, AWord, ANumber, AQuote, AMark}
use Rattle.script_lex.specs.Lines.{Placed}
use Rattle.edit_reader.specs.Readings.{Reading}
use Rattle.edit_reader.specs.Forms.{form_of, parts_of}
use Rattle.edit_reader.specs.Steps.{Told, is_near}

-- this, where each number is near enough
abbrev pub near : List Lexeme → Told → Told
near [] go_on = go_on
near (ANumber number ∷ rest) go_on = if is_near number then near rest go_on else Err TextCode.Number
near (AWord word ∷ rest) go_on = near rest go_on
near (AQuote text ∷ rest) go_on = near rest go_on
near (AMark mark ∷ rest) go_on = near rest go_on

-- this, where each word and each quoted text is short enough
abbrev pub short : List Lexeme → Told → Told
short [] go_on = go_on
short (AWord word ∷ rest) go_on = if nat_le (length word) MAX_NAME then short rest go_on else Err TextCode.Name
short (AQuote text ∷ rest) go_on = if nat_le (length text) MAX_NAME then short rest go_on else Err TextCode.Name
short (ANumber number ∷ rest) go_on = short rest go_on
short (AMark mark ∷ rest) go_on = short rest go_on

-- what the form of these parts asks for, with the faults of its parts
abbrev pub form_told : Option Reading → List Lexeme → Told
form_told None parts = Err TextCode.Text
form_told (Some reading) parts = near parts (short parts (Ok reading))

-- the tokens end at a bad byte
abbrev pub is_byte : Option TextCode → Bool
is_byte (Some TextCode.Byte) = true
is_byte _ = false

-- the fault at which the tokens end, or this where there is none
abbrev pub end_told : Option TextCode → Told → Told
end_told (Some code) go_on = Err code
end_told None go_on = go_on

-- the faults of the tokens as they are, before their form
abbrev pub tokens_told : Option TextCode → ℕ → Told → Told
tokens_told end count go_on = if is_byte end then Err TextCode.Byte else (if nat_lt MAX_TOKENS count then Err TextCode.Tokens else end_told end go_on)

-- what a line of these tokens is
abbrev pub line_told : List ℕ → List Placed → Option TextCode → Told
line_told line tokens end = tokens_told end (length tokens) (form_told (form_of line tokens) (parts_of tokens))
