-- The form of a question on a pin's graph: what it asks for, and that taking its parts one by one tells the same.
use Rattle.std.proofs.Common.{◌≡◌, ℕ, List, [], ◌∷◌, Bool, true, false, Some, None, Ok, Err, refl, sym, subst}
use Rattle.std.specs.Prelude.{nat_eq, if◌then◌else◌}
use Rattle.std.specs.Cmp.Lexicographic.{pointwise, same_text}
use Rattle.itpg_base.specs.Words.{Word}
use Rattle.itpg_base.specs.declared.text_code.TextCode.{TextCode}
use Rattle.script_lex.specs.Lexemes.{Lexeme, AWord, ANumber, AQuote, AMark}
use Rattle.edit_reader.specs.declared.command.Command.{Command}
use Rattle.edit_reader.specs.Commands.{command_word}
use Rattle.edit_reader.specs.Readings.{Reading, AsksIn}
use Rattle.edit_reader.specs.Forms.{form, before_query, in_form}
use Rattle.edit_reader.specs.Steps.{name_then, in_told}
use Rattle.edit_reader.specs.Telling.{form_told}

pub is_in : (name word : Word) (text : List ℕ) (reading : Reading) → in_form name word text ≡ Some reading → reading ≡ AsksIn name text
is_in name word text reading e = by_test (pointwise nat_eq (command_word Command.Ask) word) e
  where
    by_test : (t : Bool) → (if t then Some (AsksIn name text) else None) ≡ Some reading → reading ≡ AsksIn name text
    by_test true e = cc
    by_test false e = let never : ⊥ = cc in absurd never

-- the faults of the form are those of the pin's name, since the word `ask` is short enough
faults : (name word : Word) (reading : Reading) → command_word Command.Ask ≡ word → name_then name (λ n. Ok reading) ≡ form_told (Some reading) (AWord name ∷ AWord word ∷ [])
faults name word reading e = subst (λ (w : Word). name_then name (λ n. Ok reading) ≡ form_told (Some reading) (AWord name ∷ AWord w ∷ [])) e refl

pub in_is : (text : ℕ → List ℕ) (parts : List Lexeme) → in_told (text 2) parts ≡ form_told (form text Command.In parts) (before_query Command.In parts)
in_is text [] = refl
in_is text (ANumber number ∷ parts) = refl
in_is text (AQuote quoted ∷ parts) = refl
in_is text (AMark mark ∷ parts) = refl
in_is text (AWord name ∷ []) = refl
in_is text (AWord name ∷ ANumber number ∷ parts) = refl
in_is text (AWord name ∷ AQuote quoted ∷ parts) = refl
in_is text (AWord name ∷ AMark mark ∷ parts) = refl
in_is text (AWord name ∷ AWord word ∷ parts) = by_test (pointwise nat_eq (command_word Command.Ask) word) refl
  where
    by_test : (t : Bool) → pointwise nat_eq (command_word Command.Ask) word ≡ t →
        (if t then name_then name (λ n. Ok (AsksIn n (text 2))) else Err TextCode.Text) ≡ form_told (if t then Some (AsksIn name (text 2)) else None) (AWord name ∷ AWord word ∷ [])
    by_test true e = faults name word (AsksIn name (text 2)) (same_text (command_word Command.Ask) word (sym e))
    by_test false e = refl
