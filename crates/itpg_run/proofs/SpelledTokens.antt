-- Lines of tokens with a blank between.
use Rattle.std.specs.Prelude.{◌≡◌, ℕ, ◌+◌, ◌≤◌, Bool, true, not, nat_eq, List, [], ◌∷◌, ◌++◌, length, Some}
use Rattle.std.specs.List.{prefix_len, list_all}
use Rattle.itpg_base.specs.Spans.{IsMoment}
use Rattle.script_lex.specs.Bytes.{is_blank}
use Rattle.script_lex.specs.Lexemes.{Lexeme, AWord, ANumber, AQuote, AMark, written}
use Rattle.script_lex.specs.Lines.{Placed}
use Rattle.script_lex.specs.Numbers.{number_value}
use Rattle.script_lex.specs.Table.{first_token}

-- the tokens behind the first, each behind a blank
abbrev pub behind_text : List Lexeme → List ℕ
behind_text [] = []
behind_text (l ∷ ls) = 32 ∷ (written l ++ behind_text ls)

-- their places, where the first of them ends at this place
abbrev pub places : ℕ → List Lexeme → List Placed
places at [] = []
places at (l ∷ ls) = record { from = at + 1; to = at + 1 + length (written l); what = l } ∷ places (at + 1 + length (written l)) ls

-- the line, and all places
abbrev pub line_text : Lexeme → List Lexeme → List ℕ
line_text first ls = written first ++ behind_text ls

abbrev pub line_places : Lexeme → List Lexeme → List Placed
line_places first ls = record { from = 0; to = length (written first); what = first } ∷ places (length (written first)) ls

-- a word or a quoted text is short enough for a name, and a number is a moment
abbrev pub IsNear : Lexeme → Type 0
IsNear (AWord word) = length word ≤ 64
IsNear (AQuote text) = length text ≤ 64
IsNear (ANumber number) = IsMoment (number_value number)
IsNear (AMark mark) = Unit {0}

-- the byte is no CR
abbrev pub is_inside : ℕ → Bool
is_inside b = not (nat_eq b 13)

-- what is written so is this token, whatever tokens follow
pub record IsSpelled (l : Lexeme) : Type 0 where
  pub begins : (rest : List ℕ) → prefix_len is_blank (written l ++ rest) ≡ 0
  pub token : (ls : List Lexeme) → first_token (written l ++ behind_text ls) ≡ Some l
  pub short : length (written l) ≤ 66
  pub inside : list_all is_inside (written l) ≡ true
  pub near : IsNear l

abbrev pub AllSpelled : List Lexeme → Type 0
AllSpelled [] = Unit {0}
AllSpelled (l ∷ ls) = IsSpelled l × AllSpelled ls
