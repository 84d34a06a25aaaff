-- What a query text reads as, and its first fault.
use Rattle.std.specs.Prelude.{◌≡◌, ℕ, ◌<◌, List, map, Option, None}
use Rattle.itpg_base.specs.declared.text_code.TextCode.{TextCode}
use Rattle.itpg_base.specs.TextCodes.{text_place}
use Rattle.script_lex.specs.Lexemes.{Lexeme}
use Rattle.script_lex.specs.Lines.{Placed, AreTokens}
use Rattle.path_ast.specs.Terms.{QueryTerm}
use Rattle.match_parser.specs.Grammar.{QueryTree, query_text}
use Rattle.match_parser.specs.Translation.{query_of}
use Rattle.match_parser.specs.Faults.{Meets}

-- a token without its place
abbrev pub lexeme_of : Placed → Lexeme
lexeme_of t = t.what

-- the text is these tokens, and ends with this fault or none
pub record IsText (text : List ℕ) (tokens : List Lexeme) (end : Option TextCode) : Type 0 where
  pub placed : List Placed
  pub are : AreTokens text 0 placed end
  pub same : map lexeme_of placed ≡ tokens

-- the text is spelled by a tree that stands for the query, and has no fault
pub record Reads (text : List ℕ) (query : QueryTerm) : Type 0 where
  pub tokens : List Lexeme
  pub is : IsText text tokens None
  pub tree : QueryTree
  pub spells : query_text tree ≡ tokens
  pub means : query_of tree ≡ query
  pub clean : (c : TextCode) → Meets tokens None c → ⊥

-- the text has this fault, and none that comes before it in the order of the codes
pub record FaultOf (text : List ℕ) (code : TextCode) : Type 0 where
  pub tokens : List Lexeme
  pub end : Option TextCode
  pub is : IsText text tokens end
  pub meets : Meets tokens end code
  pub first : (c : TextCode) → text_place c < text_place code → Meets tokens end c → ⊥
