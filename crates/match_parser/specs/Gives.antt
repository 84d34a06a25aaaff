-- What a function of the reader returned is what reading gives. No public clause names this.
use Rattle.std.specs.Prelude.{◌≡◌, ℕ, ◌+◌, ◌*◌, ◌≤◌, length, List, map, Option, Some, None, Result, Ok, Err}
use Rattle.std.specs.Borrow.{Bor}
use Rattle.script_lex.specs.declared.token.What.{What}
use Rattle.script_lex.specs.Lexemes.{Lexeme, lexeme}
use Rattle.match_parser.specs.declared.fault.Stop.{Stop}
use Rattle.match_parser.specs.declared.fault.Stop.TheVariants.{Memory, Text}

-- what tokens of the code are
abbrev pub lexemes : List What → List Lexeme
lexemes tokens = map lexeme tokens

-- seen so, it is what was found; memory may run out
abbrev pub Gives : {X Y : Type 0} → (X → Y) → Result X Stop → Option Y → Type 0
Gives view (Ok x) found = found ≡ Some (view x)
Gives view (Err Memory) found = Unit {0}
Gives view (Err Text) found = found ≡ None

-- a part and the tokens behind it
abbrev pub seen : {X V : Type 0} → (X → V) → X × Bor (List What) → V × List Lexeme
seen view x = (view x.0, lexemes x.1.now)

-- with enough fuel, seen so, it is what was found in the tokens
abbrev pub GivesFor : {X V : Type 0} → (ℕ → List Lexeme → Option (V × List Lexeme)) → ℕ → (X → V) → List What → Result (X × Bor (List What)) Stop → Type 0
GivesFor at k view tokens result = (n : ℕ) → 4 * length (lexemes tokens) + k ≤ n → Gives (seen view) result (at n (lexemes tokens))

-- the tokens that are left
abbrev pub left : Bor (List What) → List Lexeme
left rest = lexemes rest.now
