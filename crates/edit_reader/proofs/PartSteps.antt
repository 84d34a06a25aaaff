-- How reading goes on behind the parts that are there, and that it stops at those that aren't.
use Rattle.std.proofs.Common.{◌≡◌, inl, inr, ℕ, ℤ, List, [], ◌∷◌, Bool, true, false, Option, Err, refl, sym, ap, ◌∙◌}
use Rattle.itpg_base.specs.Words.{Word}
use Rattle.itpg_base.specs.declared.text_code.TextCode.{TextCode}
use Rattle.script_lex.specs.Lexemes.{Lexeme, AWord, ANumber, AQuote, AMark}
use Rattle.script_lex.specs.Lines.{Placed}
use Rattle.edit_reader.specs.Forms.{lexemes}
use Rattle.edit_reader.specs.Steps.{Told, word_then, number_then, quoted_then, end_then, labels_then, is_near, moment_then, name_then, span_then, name_and_span_then, only_name_then}
use Rattle.edit_reader.specs.Taken.{NoWord, NoNumber, NoQuoted, AreListed, NoneListed, AreSpan, NoSpan, AreNameAndSpan, NoNameAndSpan, IsOnlyName, NoOnlyName}
use Rattle.std.specs.Option.{option_map_or}
use Rattle.edit_reader.specs.Labels.{Listed}
use Rattle.edit_reader.proofs.PartFaults.{near_moment, at_moment, at_none, named, overlong}

module _ {code : TextCode} where
  -- where no word comes first, nor a number, nor a quoted text
  pub stops_at_word : (parts : List Lexeme) → (code ≡ TextCode.Text) × NoWord parts → (go_on : Word → List Lexeme → Told) → word_then parts go_on ≡ Err code
  stops_at_word [] is go_on = ap Err (sym is.0)
  stops_at_word (AWord word ∷ rest) is go_on = absurd is.1
  stops_at_word (ANumber number ∷ rest) is go_on = ap Err (sym is.0)
  stops_at_word (AQuote text ∷ rest) is go_on = ap Err (sym is.0)
  stops_at_word (AMark mark ∷ rest) is go_on = ap Err (sym is.0)

  pub stops_at_number : (parts : List Lexeme) → (code ≡ TextCode.Text) × NoNumber parts → (go_on : List ℕ → List Lexeme → Told) → number_then parts go_on ≡ Err code
  stops_at_number [] is go_on = ap Err (sym is.0)
  stops_at_number (AWord word ∷ rest) is go_on = ap Err (sym is.0)
  stops_at_number (ANumber number ∷ rest) is go_on = absurd is.1
  stops_at_number (AQuote text ∷ rest) is go_on = ap Err (sym is.0)
  stops_at_number (AMark mark ∷ rest) is go_on = ap Err (sym is.0)

  pub stops_at_quoted : (parts : List Lexeme) → (code ≡ TextCode.Text) × NoQuoted parts → (go_on : Word → List Lexeme → Told) → quoted_then parts go_on ≡ Err code
  stops_at_quoted [] is go_on = ap Err (sym is.0)
  stops_at_quoted (AWord word ∷ rest) is go_on = ap Err (sym is.0)
  stops_at_quoted (ANumber number ∷ rest) is go_on = ap Err (sym is.0)
  stops_at_quoted (AQuote text ∷ rest) is go_on = absurd is.1
  stops_at_quoted (AMark mark ∷ rest) is go_on = ap Err (sym is.0)

  -- where something is left
  pub stops_at_end : (tokens : List Placed) → (code ≡ TextCode.Text) × (tokens ≡ [] → ⊥) → (go_on : Told) → end_then (lexemes tokens) go_on ≡ Err code
  stops_at_end [] is go_on = absurd (is.1 refl)
  stops_at_end (t ∷ ts) is go_on = ap Err (sym is.0)

pub goes_to_end : (tokens : List Placed) → tokens ≡ [] → (go_on : Told) → end_then (lexemes tokens) go_on ≡ go_on
goes_to_end tokens e go_on = ap (λ (ts : List Placed). end_then (lexemes ts) go_on) e

-- a list of labels
pub labels_step : {line left : List ℕ} {at : ℕ} {tokens : List Placed} (a : AreListed line 8 tokens left at) (go_on : List Word → List Lexeme → Told) → labels_then (lexemes tokens) go_on ≡ go_on a.words (lexemes a.rest)
labels_step a go_on = ap (λ (o : Option Listed). option_map_or (λ l. go_on l.words l.rest) o (Err TextCode.Text)) a.are

pub stops_at_labels : (tokens : List Placed) {code : TextCode} → NoneListed 8 tokens code → (go_on : List Word → List Lexeme → Told) → labels_then (lexemes tokens) go_on ≡ Err code
stops_at_labels tokens is go_on = ap (λ (o : Option Listed). option_map_or (λ l. go_on l.words l.rest) o (Err TextCode.Text)) is.1 ∙ ap Err (sym is.0)

-- two numbers
pub goes_on_span : (parts : List Lexeme) {from to : ℤ} → AreSpan parts from to → (go_on : ℤ → ℤ → Told) → span_then parts go_on ≡ go_on from to
goes_on_span [] is go_on = absurd is
goes_on_span (AWord word ∷ rest) is go_on = absurd is
goes_on_span (AQuote text ∷ rest) is go_on = absurd is
goes_on_span (AMark mark ∷ rest) is go_on = absurd is
goes_on_span (ANumber first ∷ []) is go_on = absurd is
goes_on_span (ANumber first ∷ AWord word ∷ rest) is go_on = absurd is
goes_on_span (ANumber first ∷ AQuote text ∷ rest) is go_on = absurd is
goes_on_span (ANumber first ∷ AMark mark ∷ rest) is go_on = absurd is
goes_on_span (ANumber first ∷ ANumber second ∷ other ∷ rest) is go_on = absurd is
goes_on_span (ANumber first ∷ ANumber second ∷ []) {from = from} is go_on = at_moment first is.0 (λ a. moment_then second (λ b. go_on a b)) ∙ at_moment second is.1 (go_on from)

pub stops_at_span : (parts : List Lexeme) {code : TextCode} → NoSpan parts code → (go_on : ℤ → ℤ → Told) → span_then parts go_on ≡ Err code
stops_at_span [] is go_on = ap Err (sym is)
stops_at_span (AWord word ∷ rest) is go_on = ap Err (sym is)
stops_at_span (AQuote text ∷ rest) is go_on = ap Err (sym is)
stops_at_span (AMark mark ∷ rest) is go_on = ap Err (sym is)
stops_at_span (ANumber first ∷ []) is go_on = ap Err (sym is)
stops_at_span (ANumber first ∷ AWord word ∷ rest) is go_on = ap Err (sym is)
stops_at_span (ANumber first ∷ AQuote text ∷ rest) is go_on = ap Err (sym is)
stops_at_span (ANumber first ∷ AMark mark ∷ rest) is go_on = ap Err (sym is)
stops_at_span (ANumber first ∷ ANumber second ∷ other ∷ rest) is go_on = ap Err (sym is)
stops_at_span (ANumber first ∷ ANumber second ∷ []) (inl far) go_on = at_none first far (λ a. moment_then second (λ b. go_on a b))
stops_at_span (ANumber first ∷ ANumber second ∷ []) {code = code} (inr far) go_on = by_test (is_near first) refl
  where
    by_test : (t : Bool) → is_near first ≡ t → moment_then first (λ a. moment_then second (λ b. go_on a b)) ≡ Err code
    by_test true e = at_moment first (near_moment first e, refl) (λ a. moment_then second (λ b. go_on a b)) ∙ at_none second far (go_on _)
    by_test false e = rw e (ap Err (sym far.0))

-- a name and two numbers
pub goes_on_name_and_span : (parts : List Lexeme) {name : Word} {from to : ℤ} → AreNameAndSpan parts name from to → (go_on : Word → ℤ → ℤ → Told) → name_and_span_then parts go_on ≡ go_on name from to
goes_on_name_and_span [] is go_on = absurd is
goes_on_name_and_span (ANumber number ∷ rest) is go_on = absurd is
goes_on_name_and_span (AQuote text ∷ rest) is go_on = absurd is
goes_on_name_and_span (AMark mark ∷ rest) is go_on = absurd is
goes_on_name_and_span (AWord word ∷ rest) {from = from} {to = to} is go_on =
    goes_on_span rest is.1 (λ from to. name_then word (λ name. go_on name from to)) ∙ named is.0 (λ name. go_on name from to)

pub stops_at_name_and_span : (parts : List Lexeme) {code : TextCode} → NoNameAndSpan parts code → (go_on : Word → ℤ → ℤ → Told) → name_and_span_then parts go_on ≡ Err code
stops_at_name_and_span [] is go_on = ap Err (sym is)
stops_at_name_and_span (ANumber number ∷ rest) is go_on = ap Err (sym is)
stops_at_name_and_span (AQuote text ∷ rest) is go_on = ap Err (sym is)
stops_at_name_and_span (AMark mark ∷ rest) is go_on = ap Err (sym is)
stops_at_name_and_span (AWord word ∷ rest) (inl none) go_on = stops_at_span rest none (λ from to. name_then word (λ name. go_on name from to))
stops_at_name_and_span (AWord word ∷ rest) (inr (from, to, span, long)) go_on =
    goes_on_span rest span (λ from to. name_then word (λ name. go_on name from to)) ∙ overlong word long (λ name. go_on name from to)

-- a name alone
pub goes_on_only_name : (parts : List Lexeme) {name : Word} → IsOnlyName parts name → (go_on : Word → Told) → only_name_then parts go_on ≡ go_on name
goes_on_only_name [] is go_on = absurd is
goes_on_only_name (ANumber number ∷ rest) is go_on = absurd is
goes_on_only_name (AQuote text ∷ rest) is go_on = absurd is
goes_on_only_name (AMark mark ∷ rest) is go_on = absurd is
goes_on_only_name (AWord word ∷ other ∷ rest) is go_on = absurd is
goes_on_only_name (AWord word ∷ []) is go_on = named is go_on

pub stops_at_only_name : (parts : List Lexeme) {code : TextCode} → NoOnlyName parts code → (go_on : Word → Told) → only_name_then parts go_on ≡ Err code
stops_at_only_name [] is go_on = ap Err (sym is)
stops_at_only_name (ANumber number ∷ rest) is go_on = ap Err (sym is)
stops_at_only_name (AQuote text ∷ rest) is go_on = ap Err (sym is)
stops_at_only_name (AMark mark ∷ rest) is go_on = ap Err (sym is)
stops_at_only_name (AWord word ∷ other ∷ rest) is go_on = ap Err (sym is)
stops_at_only_name (AWord word ∷ []) is go_on = overlong word is go_on
