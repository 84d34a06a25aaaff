-- What a token is, as plain data, and the bytes that it is written with.
use Rattle.std.specs.Prelude.{ℕ, List, [], ◌∷◌, ◌++◌}
use Rattle.script_lex.specs.declared.mark.Mark.{Mark}
use Rattle.script_lex.specs.declared.token.What.{What}
use Rattle.script_lex.specs.Marks.{mark_text}

-- a word, a number or the text between two quotes with its bytes, or a mark
pub data Lexeme : Type 0 where
  AWord : List ℕ → Lexeme
  ANumber : List ℕ → Lexeme
  AQuote : List ℕ → Lexeme
  AMark : Mark → Lexeme

-- what a token of the code is
abbrev pub lexeme : What → Lexeme
lexeme (What.Word w) = AWord w.now
lexeme (What.Number n) = ANumber n.now
lexeme (What.Quoted q) = AQuote q.now
lexeme (What.Mark m) = AMark m

-- the bytes of a line that it takes; a quoted text stands between two quotes
abbrev pub written : Lexeme → List ℕ
written (AWord w) = w
written (ANumber n) = n
written (AQuote q) = 39 ∷ q ++ 39 ∷ []
written (AMark m) = mark_text m
