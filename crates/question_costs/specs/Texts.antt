-- The lines that are written of a question: of its path, of a member, of the first member that is over, and of a hint.
use Rattle.std.specs.Prelude.{ℕ, ◌+◌, ◌/◌, ◌%◌, Bool, true, false, List, [], ◌∷◌, ◌++◌, take, codes, Option, Some, None}
use Rattle.std.specs.Fmt.{decimal}
use Rattle.path_ast.specs.Terms.{PathTerm}
use Rattle.label_scope.specs.declared.scope.Scope.{Scope}
use Rattle.path_text.specs.Texts.{text_of}
use Rattle.path_text.specs.ScopeTexts.{text_of_scope}
use Rattle.question_costs.specs.declared.count.Count.{Count}
use Rattle.question_costs.specs.declared.count.Count.TheVariants.{Rows, Over, Unknown}
use Rattle.question_hints.specs.declared.hint.Hint.{Hint}
use Rattle.question_hints.specs.Texts.{text_of_hint}

-- a word, a blank and the rest, as a line
abbrev pub line_text : List ℕ → List ℕ → List ℕ
line_text word rest = word ++ codes " " ++ rest ++ codes "\n"

-- the three decimal digits of a number below 1000
abbrev pub three_digits : ℕ → List ℕ
three_digits n = (48 + n / 100) ∷ (48 + n / 10 % 10) ∷ (48 + n % 10) ∷ []

-- microseconds as milliseconds with three places
abbrev pub millis_text : ℕ → List ℕ
millis_text micros = decimal (micros / 1000) ++ codes "." ++ three_digits (micros % 1000) ++ codes " ms"

-- `rows N`, `over LIMIT` or `unknown`
abbrev pub count_text : ℕ → Count → List ℕ
count_text limit (Rows n) = codes "rows " ++ decimal n
count_text limit Over = codes "over " ++ decimal limit
count_text limit Unknown = codes "unknown"

-- whether the relation was kept
abbrev pub state_text : Bool → List ℕ
state_text true = codes "kept"
state_text false = codes "new"

-- what is told of a member: its number, how many rows it has, the microseconds of its own step, whether its relation was kept, and
-- the scopes that it is worked between
pub record Told : Type 0 where
  pub number : ℕ
  pub count : Count
  pub micros : ℕ
  pub is_kept : Bool
  pub sources : Scope
  pub targets : Scope

-- `member NO COUNT STATE MS ms `
unfoldable pub cost_text : ℕ → Told → List ℕ
cost_text limit m = codes "member " ++ decimal m.number ++ codes " " ++ count_text limit m.count ++ codes " " ++ state_text m.is_kept ++ codes " " ++ millis_text m.micros ++ codes " "

-- `SOURCES TARGETS `
abbrev pub scopes_text : Scope → Scope → List ℕ
scopes_text sources targets = text_of_scope sources ++ codes " " ++ text_of_scope targets ++ codes " "

-- `member NO COUNT STATE MS ms SOURCES TARGETS PATH`, with the first 240 bytes of the path
unfoldable pub told_text : ℕ → Told → PathTerm → List ℕ
told_text limit m p = cost_text limit m ++ scopes_text m.sources m.targets ++ take 240 (text_of p) ++ codes "\n"

-- `wide member NO`, if there is one
abbrev pub wide_text : Option ℕ → List ℕ
wide_text None = []
wide_text (Some k) = (codes "wide member " ++ decimal k) ++ codes "\n"

-- a line for each hint
abbrev pub hints_text : List Hint → List ℕ
hints_text [] = []
hints_text (hint ∷ rest) = line_text (codes "hint") (text_of_hint hint) ++ hints_text rest
