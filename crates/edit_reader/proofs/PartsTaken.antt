-- What the parts are that were taken, one behind the other, and why others aren't there.
use Rattle.std.proofs.Common.{◌≡◌, inl, inr, ℕ, ℤ, List, [], ◌∷◌, refl, sym, ap, ◌∙◌, subst}
use Rattle.itpg_base.specs.Words.{Word}
use Rattle.itpg_base.specs.declared.text_code.TextCode.{TextCode}
use Rattle.script_lex.specs.Lexemes.{Lexeme, AWord, ANumber}
use Rattle.script_lex.specs.Lines.{Placed}
use Rattle.edit_reader.specs.Forms.{lexemes}
use Rattle.edit_reader.specs.Taken.{IsTaken, Writes, IsFar, Names, IsLong, AreSpan, NoSpan, AreNameAndSpan, NoNameAndSpan, NoOnlyName}
use Rattle.edit_reader.proofs.Stepping.{taken_parts}

-- something stands behind what was to be the last
abbrev Follows : List Placed → TextCode → Type 0
Follows tokens code = (code ≡ TextCode.Text) × (tokens ≡ [] → ⊥)

module _ {l l1 l2 : List ℕ} {at1 at2 : ℕ} {tokens : List Placed} {first second : List ℕ} (t : IsTaken l tokens (ANumber first) l1 at1) (u : IsTaken l1 t.rest (ANumber second) l2 at2) where
  numbers : lexemes tokens ≡ ANumber first ∷ ANumber second ∷ lexemes u.rest
  numbers = taken_parts t ∙ ap (λ (parts : List Lexeme). ANumber first ∷ parts) (taken_parts u)

  two_numbers : u.rest ≡ [] → ANumber first ∷ ANumber second ∷ [] ≡ lexemes tokens
  two_numbers end = sym (numbers ∙ ap (λ (ts : List Placed). ANumber first ∷ ANumber second ∷ lexemes ts) end)

  pub span_taken : u.rest ≡ [] → {from to : ℤ} → Writes first from → Writes second to → AreSpan (lexemes tokens) from to
  span_taken end {from = from} {to = to} begins ends = subst (λ (parts : List Lexeme). AreSpan parts from to) (two_numbers end) (begins, ends)

  pub first_far : u.rest ≡ [] → {code : TextCode} → IsFar first code → NoSpan (lexemes tokens) code
  first_far end {code = code} far = subst (λ (parts : List Lexeme). NoSpan parts code) (two_numbers end) (inl far)

  pub second_far : u.rest ≡ [] → {code : TextCode} → IsFar second code → NoSpan (lexemes tokens) code
  second_far end {code = code} far = subst (λ (parts : List Lexeme). NoSpan parts code) (two_numbers end) (inr far)

  pub span_followed : {code : TextCode} → Follows u.rest code → NoSpan (lexemes tokens) code
  span_followed {code = code} is = subst (λ (parts : List Lexeme). NoSpan parts code) (sym numbers) (behind u.rest is.1)
    where
      behind : (rest : List Placed) → (rest ≡ [] → ⊥) → NoSpan (ANumber first ∷ ANumber second ∷ lexemes rest) code
      behind [] some = absurd (some refl)
      behind (x ∷ xs) some = is.0

module _ {l l1 : List ℕ} {at1 : ℕ} {tokens : List Placed} {word : Word} (t : IsTaken l tokens (AWord word) l1 at1) where
  pub name_and_span_taken : {name : Word} (from to : ℤ) → Names word name → AreSpan (lexemes t.rest) from to → AreNameAndSpan (lexemes tokens) name from to
  name_and_span_taken {name = name} from to is span = subst (λ (parts : List Lexeme). AreNameAndSpan parts name from to) (sym (taken_parts t)) (is, span)

  pub long_before_span : (from to : ℤ) {code : TextCode} → AreSpan (lexemes t.rest) from to → IsLong word code → NoNameAndSpan (lexemes tokens) code
  long_before_span from to {code = code} span long = subst (λ (parts : List Lexeme). NoNameAndSpan parts code) (sym (taken_parts t)) (inr (from, to, span, long))

  pub word_without_span : (code : TextCode) → NoSpan (lexemes t.rest) code → NoNameAndSpan (lexemes tokens) code
  word_without_span code none = subst (λ (parts : List Lexeme). NoNameAndSpan parts code) (sym (taken_parts t)) (inl none)

  pub word_alone : t.rest ≡ [] → AWord word ∷ [] ≡ lexemes tokens
  word_alone end = sym (taken_parts t ∙ ap (λ (ts : List Placed). AWord word ∷ lexemes ts) end)

  pub word_followed : {code : TextCode} → Follows t.rest code → NoOnlyName (lexemes tokens) code
  word_followed {code = code} is = subst (λ (parts : List Lexeme). NoOnlyName parts code) (sym (taken_parts t)) (behind t.rest is.1)
    where
      behind : (rest : List Placed) → (rest ≡ [] → ⊥) → NoOnlyName (AWord word ∷ lexemes rest) code
      behind [] some = absurd (some refl)
      behind (x ∷ xs) some = is.0
