-- What the code finds out of the tokens that are left: no public clause names what stands here.
use Rattle.std.specs.Prelude.{◌≡◌, ℕ, List, Result, Ok, Err}
use Rattle.itpg_base.specs.declared.text_code.TextCode.{TextCode}
use Rattle.script_lex.specs.Lexemes.{Lexeme}
use Rattle.edit_reader.specs.declared.line.Line.{Line}
use Rattle.itpg_edit.specs.declared.edit.Edit.{Edit}
use Rattle.edit_reader.specs.Readings.{Changes, told}
use Rattle.edit_reader.specs.Forms.{lexemes}
use Rattle.edit_reader.specs.Steps.{Told}
use Rattle.edit_reader.specs.Taken.{OfRest}

-- the answer is this of the tokens that are left in the line from `at` on
abbrev pub Tells : List ℕ → ℕ → (List Lexeme → Told) → Result Line TextCode → Type 0
Tells line at what result = OfRest line at (λ tokens. told result ≡ what (lexemes tokens))

-- what the line asks for that the room holds an edit of, or its fault
abbrev pub written : Result (Unit {0}) TextCode → Edit → Told
written (Ok _) edit = Ok (Changes edit)
written (Err code) edit = Err code

-- the edit in the room is what these tokens ask for that are left in the line from `at` on, or the answer is their fault
abbrev pub WritesEdit : List ℕ → ℕ → (List Lexeme → Told) → Result (Unit {0}) TextCode → Edit → Type 0
WritesEdit line at what result edit = OfRest line at (λ tokens. written result edit ≡ what (lexemes tokens))
