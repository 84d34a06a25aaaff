-- The first of the tokens that are left, and how reading goes on behind it.
use Rattle.std.proofs.Common.{◌≡◌, ℕ, List, ◌∷◌, ap, ◌∙◌}
use Rattle.itpg_base.specs.Words.{Word}
use Rattle.script_lex.specs.Lexemes.{Lexeme, AWord, ANumber, AQuote}
use Rattle.script_lex.specs.Lines.{Placed}
use Rattle.edit_reader.specs.Forms.{lexemes}
use Rattle.edit_reader.specs.Steps.{Told, word_then, number_then, quoted_then}
use Rattle.edit_reader.specs.Taken.{IsTaken}

module _ {line left : List ℕ} {at : ℕ} {tokens : List Placed} {bytes : List ℕ} where
  pub word_step : (t : IsTaken line tokens (AWord bytes) left at) (go_on : Word → List Lexeme → Told) → word_then (lexemes tokens) go_on ≡ go_on bytes (lexemes t.rest)
  word_step t go_on = ap (λ (ts : List Placed). word_then (lexemes ts) go_on) t.are ∙ ap (λ (w : Lexeme). word_then (w ∷ lexemes t.rest) go_on) t.what_is

  pub number_step : (t : IsTaken line tokens (ANumber bytes) left at) (go_on : List ℕ → List Lexeme → Told) → number_then (lexemes tokens) go_on ≡ go_on bytes (lexemes t.rest)
  number_step t go_on = ap (λ (ts : List Placed). number_then (lexemes ts) go_on) t.are ∙ ap (λ (w : Lexeme). number_then (w ∷ lexemes t.rest) go_on) t.what_is

  pub quoted_step : (t : IsTaken line tokens (AQuote bytes) left at) (go_on : Word → List Lexeme → Told) → quoted_then (lexemes tokens) go_on ≡ go_on bytes (lexemes t.rest)
  quoted_step t go_on = ap (λ (ts : List Placed). quoted_then (lexemes ts) go_on) t.are ∙ ap (λ (w : Lexeme). quoted_then (w ∷ lexemes t.rest) go_on) t.what_is

-- the tokens are the one that was taken, and those behind it
pub taken_parts : {line left : List ℕ} {at : ℕ} {tokens : List Placed} {what : Lexeme} → (t : IsTaken line tokens what left at) → lexemes tokens ≡ what ∷ lexemes t.rest
taken_parts t = ap (λ (ts : List Placed). lexemes ts) t.are ∙ ap (λ (w : Lexeme). w ∷ lexemes t.rest) t.what_is
