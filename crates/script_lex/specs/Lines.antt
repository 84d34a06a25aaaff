-- The tokens of a line, and how they end.
use Rattle.std.specs.Prelude.{◌≡◌, ℕ, ◌+◌, ◌<◌, List, [], ◌∷◌, length, drop, slice_range, Option, Some, None, IsTrue}
use Rattle.std.specs.List.{prefix_len, list_all}
use Rattle.itpg_base.specs.declared.text_code.TextCode.{TextCode}
use Rattle.script_lex.specs.declared.token.Token.{Token}
use Rattle.script_lex.specs.Bytes.{is_blank}
use Rattle.script_lex.specs.Lexemes.{Lexeme, lexeme, written}
use Rattle.script_lex.specs.Table.{first_token, fault_of}

-- a token and its place: it takes the bytes from `from` up to, and without, `to`
pub record Placed : Type 0 where
  pub from : ℕ
  pub to : ℕ
  pub what : Lexeme

-- a token of the code, with its place
abbrev pub placed : Token → Placed
placed t = record { from = t.from; to = t.to; what = lexeme t.what }

-- nothing but blanks
abbrev pub AreBlank : List ℕ → Type 0
AreBlank bytes = IsTrue (list_all is_blank bytes)

-- the place of the first byte from `at` on that is no blank, or the end of the line
abbrev pub behind_blanks : List ℕ → ℕ → ℕ
behind_blanks line at = at + prefix_len is_blank (drop at line)

-- the first token from `at` on: it begins behind the blanks, and takes the bytes that it is written with
pub record IsNext (line : List ℕ) (at : ℕ) (t : Placed) : Type 0 where
  pub from : t.from ≡ behind_blanks line at
  pub what : first_token (drop t.from line) ≡ Some t.what
  pub to : t.to ≡ t.from + length (written t.what)

-- behind the blanks there is a byte, and no token begins with it, for this reason
pub record IsLineFault (line : List ℕ) (at : ℕ) (code : TextCode) : Type 0 where
  pub some : behind_blanks line at < length line
  pub none : first_token (drop (behind_blanks line at) line) ≡ None
  pub why : fault_of (drop (behind_blanks line at) line) ≡ code

-- no token follows: only blanks do, or a fault
abbrev pub EndsAt : List ℕ → ℕ → Option TextCode → Type 0
EndsAt line at None = AreBlank (drop at line)
EndsAt line at (Some code) = IsLineFault line at code

-- the tokens of a line from `at` on, one behind another, and the fault at which they end, or none at the end of the line
abbrev pub AreTokens : List ℕ → ℕ → List Placed → Option TextCode → Type 0
AreTokens line at [] end = EndsAt line at end
AreTokens line at (t ∷ ts) end = IsNext line at t × AreTokens line t.to ts end

-- these tokens stand one behind another from `at` on, and the last ends at `to`
abbrev pub LeadTo : List ℕ → ℕ → List Placed → ℕ → Type 0
LeadTo line at [] to = at ≡ to
LeadTo line at (t ∷ ts) to = IsNext line at t × LeadTo line t.to ts to

-- the line is written with these tokens from `at` on: the bytes of each, and nothing but blanks before it
abbrev pub AreWritten : List ℕ → ℕ → List Placed → Type 0
AreWritten line at [] = Unit {0}
AreWritten line at (t ∷ ts) = AreBlank (slice_range line at t.from) × (slice_range line t.from t.to ≡ written t.what) × AreWritten line t.to ts
