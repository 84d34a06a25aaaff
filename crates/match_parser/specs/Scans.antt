-- What a look at a text finds, before any of it is kept. No public clause names this.
use Rattle.std.specs.Prelude.{◌≡◌, ◌↔◌, ◌<◌, ◌≤◌, ℕ, Bool, List, map, length, nat_lt, count_by, Option, Some, None, Result, Ok, Err, IsTrue, if◌then◌else◌}
use Rattle.itpg_base.specs.declared.text_code.TextCode.{TextCode}
use Rattle.itpg_base.specs.declared.text_code.TextCode.TheVariants.{Long, Byte, Tokens, Deep, Text, Number, Name, Range, Names, Terms}
use Rattle.itpg_base.specs.TextCodes.{text_place}
use Rattle.script_lex.specs.Lexemes.{Lexeme}
use Rattle.script_lex.specs.Lines.{Placed, LeadTo}
use Rattle.script_lex.specs.declared.token.TheConstants.{MAX_TOKENS}
use Rattle.match_parser.specs.declared.scan.Look.{Look}
use Rattle.match_parser.specs.Faults.{opens, closes, AreDeep, Meets}
use Rattle.match_parser.specs.Reading.{lexeme_of, IsText}

-- these tokens lead from the begin of the text to where the look is, and it has counted them and their brackets
pub record HasSeen (text : List ℕ) (look : Look) : Type 0 where
  pub placed : List Placed
  pub lead : LeadTo text 0 placed look.at
  pub within : look.at ≤ length text
  pub few : look.count ≤ look.at
  pub opened_few : look.opened ≤ look.count
  pub closed_few : look.closed ≤ look.count
  pub count : look.count ≡ length placed
  pub opened : look.opened ≡ count_by opens (map lexeme_of placed)
  pub closed : look.closed ≡ count_by closes (map lexeme_of placed)
  pub deep : IsTrue look.deep ↔ AreDeep (map lexeme_of placed)

-- by how the tokens end
abbrev pub by_end : ℕ → Option TextCode → Result ℕ TextCode
by_end count None = Ok count
by_end count (Some code) = Err code

abbrev pub by_depth : ℕ → Bool → Option TextCode → Result ℕ TextCode
by_depth count deep end = if nat_lt MAX_TOKENS count then Err Tokens else (if deep then Err Deep else by_end count end)

-- the first fault of those that don't depend on what the tokens are
abbrev pub judged : ℕ → Bool → Option TextCode → Result ℕ TextCode
judged count deep None = by_depth count deep None
judged count deep (Some Long) = by_depth count deep (Some Long)
judged count deep (Some Byte) = Err Byte
judged count deep (Some Tokens) = by_depth count deep (Some Tokens)
judged count deep (Some Deep) = by_depth count deep (Some Deep)
judged count deep (Some Text) = by_depth count deep (Some Text)
judged count deep (Some Number) = by_depth count deep (Some Number)
judged count deep (Some Name) = by_depth count deep (Some Name)
judged count deep (Some Range) = by_depth count deep (Some Range)
judged count deep (Some Names) = by_depth count deep (Some Names)
judged count deep (Some Terms) = by_depth count deep (Some Terms)

-- the text has so many tokens, ends without a fault, and has none of the faults before `text`
pub record IsSurveyed (text : List ℕ) (many : ℕ) : Type 0 where
  pub tokens : List Lexeme
  pub is : IsText text tokens None
  pub count : many ≡ length tokens
  pub clean : (c : TextCode) → text_place c < 5 → Meets tokens None c → ⊥
