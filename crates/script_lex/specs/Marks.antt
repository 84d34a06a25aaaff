-- The table of the marks.
use Rattle.std.specs.Prelude.{ℕ, nat_eq, List, [], ◌∷◌, codes, Option, find}
use Rattle.std.specs.List.{starts_with}
use Rattle.std.specs.Option.{option_or}
use Rattle.script_lex.specs.declared.mark.Mark.{Mark}
use Rattle.script_lex.specs.declared.mark.Mark.TheVariants.{DashSlash, SlashDash, AtLeast, ParenL, ParenR, BraceL, BraceR, BrackL, BrackR, Colon, Comma, Plus, Star, Slash, Ask, Equal, Less, Under}

-- the bytes that each mark is written with
abbrev pub mark_text : Mark → List ℕ
mark_text DashSlash = codes "-/"
mark_text SlashDash = codes "/-"
mark_text AtLeast = codes ">="
mark_text ParenL = codes "("
mark_text ParenR = codes ")"
mark_text BraceL = codes "{"
mark_text BraceR = codes "}"
mark_text BrackL = codes "["
mark_text BrackR = codes "]"
mark_text Colon = codes ":"
mark_text Comma = codes ","
mark_text Plus = codes "+"
mark_text Star = codes "*"
mark_text Slash = codes "/"
mark_text Ask = codes "?"
mark_text Equal = codes "="
mark_text Less = codes "<"
mark_text Under = codes "_"

-- the marks of two bytes
abbrev pub double_marks : List Mark
double_marks = DashSlash ∷ SlashDash ∷ AtLeast ∷ []

-- the marks of one byte
abbrev pub single_marks : List Mark
single_marks = ParenL ∷ ParenR ∷ BraceL ∷ BraceR ∷ BrackL ∷ BrackR ∷ Colon ∷ Comma ∷ Plus ∷ Star ∷ Slash ∷ Ask ∷ Equal ∷ Less ∷ Under ∷ []

-- the first of the marks that the bytes begin with
unfoldable pub first_mark : List Mark → List ℕ → Option Mark
first_mark marks bytes = find (λ m. starts_with nat_eq bytes (mark_text m)) marks

-- a mark of two bytes goes before one of one byte
abbrev pub mark_of : List ℕ → Option Mark
mark_of bytes = option_or (first_mark double_marks bytes) (first_mark single_marks bytes)
