-- What a line is, from what was found out of its tokens and their form.
use Rattle.std.proofs.Common.{◌≡◌, ℕ, ◌≤◌, List, [], ◌∷◌, false, Option, Some, None, Err, length, drop, refl, sym, ap, ap₂, ◌∙◌, subst}
use Rattle.std.specs.Prelude.{slice_get}
use Rattle.itpg_base.specs.Words.{Word}
use Rattle.itpg_base.specs.declared.text_code.TextCode.{TextCode}
use Rattle.edit_reader.specs.declared.reading.TheConstants.{MAX_LINE}
use Rattle.script_lex.specs.declared.token.TheConstants.{MAX_TOKENS}
use Rattle.script_lex.specs.Lexemes.{Lexeme, AWord, ANumber, AQuote, AMark}
use Rattle.script_lex.specs.Lines.{Placed, AreTokens}
use Rattle.script_lex.proofs.OneList.{tokens_exist}
use Rattle.edit_reader.specs.Forms.{form, form_of, parts_of, before_query, bytes_behind, lexemes}
use Rattle.edit_reader.specs.Faults.{is_silent}
use Rattle.edit_reader.specs.Lines.{TakenAs}
use Rattle.edit_reader.specs.declared.command.Command.{Command}
use Rattle.edit_reader.specs.Commands.{command_of, command_at}
use Rattle.edit_reader.specs.Steps.{Told}
use Rattle.edit_reader.specs.Taken.{IsTaken, NoWord}
use Rattle.edit_reader.specs.Telling.{form_told, tokens_told, line_told}
use Rattle.edit_reader.proofs.Firsts.{told_line}
use Rattle.edit_reader.proofs.Counting.{good_told}

-- a line that is neither blank nor a comment is what its tokens tell
pub form_read : (body : List ℕ) → length body ≤ MAX_LINE → is_silent body ≡ false → (r : Told) → ((tokens : List Placed) (end : Option TextCode) → AreTokens body 0 tokens end → r ≡ line_told body tokens end) → TakenAs body r
form_read body few loud r form = let t = tokens_exist body 0 in subst (TakenAs body) (sym (form t.0 t.1.0 t.1.1)) (told_line body few loud t.0 t.1.0 t.1.1)

-- few tokens that end with the line tell what their form does
pub form_alone : (line : List ℕ) (tokens : List Placed) (end : Option TextCode) → AreTokens line 0 tokens end → end ≡ None → length tokens ≤ MAX_TOKENS → (r : Told) → (AreTokens line 0 tokens None → r ≡ form_told (form_of line tokens) (parts_of tokens)) → r ≡ line_told line tokens end
form_alone line tokens end are ended few r form =
    form (subst (AreTokens line 0 tokens) ended are) ∙ sym (good_told end (length tokens) (form_told (form_of line tokens) (parts_of tokens)) ended few)

-- the form counts only where the tokens end with the line
pub same_told : (end : Option TextCode) (count : ℕ) (a b : Told) → (end ≡ None → a ≡ b) → tokens_told end count a ≡ tokens_told end count b
same_told None count a b same = ap (tokens_told None count) (same refl)
same_told (Some code) count a b same = refl

-- where the tokens begin with no word they are no form
pub no_word : (line : List ℕ) (tokens : List Placed) (code : TextCode) → (code ≡ TextCode.Text) × NoWord (lexemes tokens) → Err code ≡ form_told (form_of line tokens) (parts_of tokens)
no_word line [] code is = ap Err is.0
no_word line (t ∷ ts) code is = by_what t.what refl
  where
    by_what : (w : Lexeme) → t.what ≡ w → Err code ≡ form_told (form_of line (t ∷ ts)) (parts_of (t ∷ ts))
    by_what (AWord word) e = absurd (subst (λ (w : Lexeme). NoWord (w ∷ lexemes ts)) e is.1)
    by_what (ANumber number) e = rw e (ap Err is.0)
    by_what (AQuote text) e = rw e (ap Err is.0)
    by_what (AMark mark) e = rw e (ap Err is.0)

module _ (line : List ℕ) {left : List ℕ} {at : ℕ} {tokens : List Placed} {word : Word} (t : IsTaken line tokens (AWord word) left at) where
  -- where the first word is no command word, the tokens are no form
  pub no_command : command_of word ≡ None → Err TextCode.Text ≡ form_told (form_of line tokens) (parts_of tokens)
  no_command none = subst (λ (ts : List Placed). Err TextCode.Text ≡ form_told (form_of line ts) (parts_of ts)) (sym t.are) of_first
    where
      none_at : command_at t.first.what ≡ None
      none_at = ap command_at t.what_is ∙ none

      of_first : Err TextCode.Text ≡ form_told (form_of line (t.first ∷ t.rest)) (parts_of (t.first ∷ t.rest))
      of_first = rw none_at refl

  -- where it is one, they tell what stands behind it
  pub of_command : (command : Command) → command_of word ≡ Some command → (r : Told) → ((text : ℕ → List ℕ) →
      text 0 ≡ drop at left → text 1 ≡ bytes_behind left (slice_get t.rest 0) → text 2 ≡ bytes_behind left (slice_get t.rest 1) →
      r ≡ form_told (form text command (lexemes t.rest)) (before_query command (lexemes t.rest))) → r ≡ form_told (form_of line tokens) (parts_of tokens)
  of_command command some r form = subst (λ (ts : List Placed). r ≡ form_told (form_of line ts) (parts_of ts)) (sym t.are) of_first
    where
      some_at : command_at t.first.what ≡ Some command
      some_at = ap command_at t.what_is ∙ some

      text : ℕ → List ℕ
      text n = bytes_behind line (slice_get (t.first ∷ t.rest) n)

      behind : (n : ℕ) → bytes_behind line (slice_get t.rest n) ≡ bytes_behind left (slice_get t.rest n)
      behind n = ap (λ (bytes : List ℕ). bytes_behind bytes (slice_get t.rest n)) (sym t.same)

      of_first : r ≡ form_told (form_of line (t.first ∷ t.rest)) (parts_of (t.first ∷ t.rest))
      of_first = rw some_at (form text (ap₂ (λ (k : ℕ) (bytes : List ℕ). drop k bytes) (sym t.to) (sym t.same)) (behind 0) (behind 1))
