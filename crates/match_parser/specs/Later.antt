-- The faults of a text that is a query, as tests. No public clause names this.
use Rattle.std.specs.Prelude.{ℕ, Bool, false, not, ◌||◌, nat_eq, nat_lt, List, length, Option, Some, None, if◌then◌else◌}
use Rattle.std.specs.Cmp.Lexicographic.{pointwise}
use Rattle.std.specs.List.{list_any}
use Rattle.itpg_base.specs.declared.text_code.TextCode.{TextCode}
use Rattle.itpg_base.specs.declared.text_code.TextCode.TheVariants.{Number, Name, Range, Names, Terms}
use Rattle.script_lex.specs.declared.token.What.{What}
use Rattle.script_lex.specs.Lexemes.{Lexeme, lexeme, AWord, ANumber, AQuote, AMark}
use Rattle.path_ast.specs.declared.counts.TheConstants.{MAX_TERMS}
use Rattle.path_ast.specs.Sizes.{path_size}
use Rattle.match_parser.specs.Faults.{has_backwards}
use Rattle.match_parser.specs.Kept.{is_tame}
use Rattle.match_parser.specs.Parsing.{Chain}

abbrev pub is_wild : Lexeme → Bool
is_wild (AWord w) = false
is_wild (ANumber n) = not (is_tame n)
is_wild (AQuote q) = false
is_wild (AMark m) = false

abbrev pub is_overlong : Lexeme → Bool
is_overlong (AWord w) = nat_lt 64 (length w)
is_overlong (ANumber n) = false
is_overlong (AQuote q) = nat_lt 64 (length q)
is_overlong (AMark m) = false

-- the first and the last name are there and equal, or there is no name at all
abbrev pub ends_are_wrong : Option (List ℕ) → Option (List ℕ) → Bool → Bool
ends_are_wrong None last later = not later
ends_are_wrong (Some a) None later = false
ends_are_wrong (Some a) (Some b) later = pointwise nat_eq a b

abbrev pub are_names_wrong : Chain → Bool
are_names_wrong c = c.inner || ends_are_wrong c.first c.last c.later

-- some token of the code is so
abbrev pub some_what : (Lexeme → Bool) → List What → Bool
some_what test tokens = list_any (λ what. test (lexeme what)) tokens

abbrev pub later_of : List What → Chain → Option TextCode
later_of ts c =
    if some_what is_wild ts then Some Number else (
    if some_what is_overlong ts then Some Name else (
    if has_backwards c.path then Some Range else (
    if are_names_wrong c then Some Names else (
    if nat_lt MAX_TERMS (path_size c.path) then Some Terms else None
    )
    )
    )
    )
