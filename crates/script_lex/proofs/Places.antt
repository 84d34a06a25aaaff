-- Where the next token of a line begins and ends.
use Rattle.std.proofs.Common.{◌≡◌, ℕ, ◌+◌, ◌-◌, ◌<◌, ◌≤◌, List, true, false, Some, inl, inr, length, take, drop, sym, ap, ◌∙◌, arith, length-drop, length-append}
use Rattle.std.specs.Prelude.{◌==◌}
use Rattle.std.proofs.lemmas.Bool.{eqb-true, eqb-false, cases_lt}
use Rattle.itpg_base.proofs.Lists.{take_rest}
use Rattle.script_lex.specs.Bytes.{is_blank}
use Rattle.script_lex.specs.Lexemes.{Lexeme, written}
use Rattle.script_lex.specs.Table.{first_token}
use Rattle.script_lex.specs.Lines.{AreBlank, behind_blanks}
use Rattle.script_lex.proofs.Runs.{run_whole, whole_run}
use Rattle.script_lex.proofs.Fronts.{token_read}

pub blank_end : (line : List ℕ) (at : ℕ) → length line ≤ behind_blanks line at → AreBlank (drop at line)
blank_end line at h = let long = length-drop at line in run_whole is_blank (drop at line) (omega arith)

pub end_blank : (line : List ℕ) (at : ℕ) → AreBlank (drop at line) → length line ≤ behind_blanks line at
end_blank line at h =
    let long = length-drop at line in
    let whole = whole_run is_blank (drop at line) h in
    omega arith

-- the token lies in the line
pub record IsInside (line : List ℕ) (from : ℕ) (t : Lexeme) : Type 0 where
  pub some : 0 < length (written t)
  pub fits : from + length (written t) ≤ length line

pub token_inside : (line : List ℕ) (from : ℕ) (t : Lexeme) → first_token (drop from line) ≡ Some t → IsInside line from t
token_inside line from t e =
    let r = (token_read (drop from line) t e).front in
    let whole : length (written t) + length r.rest ≡ length line - from = sym (length-append (written t) r.rest) ∙ ap length r.split ∙ length-drop from line in
    let some : 0 < length (written t) = r.some in
    record { some = some; fits = omega arith }

pub empty_rest : (line : List ℕ) (from : ℕ) → (length (take (length line - from) (drop from line)) == 0) ≡ true → length line ≤ from
empty_rest line from e = let long = length-drop from line in let none = eqb-true (length (take (length line - from) (drop from line))) 0 e in let same = ap length (take_rest line from) in omega arith

pub some_rest : (line : List ℕ) (from : ℕ) → (length (take (length line - from) (drop from line)) == 0) ≡ false → from < length line
some_rest line from e = elim (cases_lt from (length line)) [
  | inl h ↦ h
  | inr h ↦ let none = eqb-false (length (take (length line - from) (drop from line))) 0 e in absurd (none (ap length (take_rest line from) ∙ length-drop from line ∙ (omega arith)))
]

-- before a byte that is no blank it isn't blank
pub not_blank : (line : List ℕ) (at : ℕ) → behind_blanks line at < length line → AreBlank (drop at line) → ⊥
not_blank line at some blank = let end = end_blank line at blank in absurd (omega arith)

-- what is read at the place
pub token_at : (line : List ℕ) (from : ℕ) (t : Lexeme) → first_token (take (length line - from) (drop from line)) ≡ Some t → first_token (drop from line) ≡ Some t
token_at line from t e = ap first_token (sym (take_rest line from)) ∙ e
