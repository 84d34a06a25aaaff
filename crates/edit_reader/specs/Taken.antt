-- Tokens taken from the front of what is left: no public clause names what stands here.
use Rattle.std.specs.Prelude.{◌≡◌, ◌⊎◌, ℕ, ◌<◌, ◌≤◌, ℤ, List, [], ◌∷◌, length, Option, Some, None, Result, MatchResult}
use Rattle.itpg_base.specs.Spans.{IsMoment}
use Rattle.itpg_base.specs.Words.{Word}
use Rattle.itpg_base.specs.declared.name.TheConstants.{MAX_NAME}
use Rattle.itpg_base.specs.declared.text_code.TextCode.{TextCode}
use Rattle.itpg_base.specs.declared.label_set.TheConstants.{MAX_LABELS}
use Rattle.edit_reader.specs.Forms.{lexemes}
use Rattle.edit_reader.specs.Labels.{Listed, listed, behind_comma, set_of, AreShort}
use Rattle.script_lex.specs.Lexemes.{Lexeme, AWord, ANumber, AQuote}
use Rattle.script_lex.specs.Lines.{Placed, AreTokens}
use Rattle.script_lex.specs.Numbers.{number_value}

-- this holds of the tokens of the line from `at` on, where they end with the line
abbrev pub OfRest : List ℕ → ℕ → (List Placed → Type 0) → Type 0
OfRest line at P = (tokens : List Placed) → AreTokens line at tokens None → P tokens

-- the tokens from this place on end as all tokens of the line do
abbrev pub IsReached : List ℕ → ℕ → Type 0
IsReached line at = (rest tokens : List Placed) (end stop : Option TextCode) → AreTokens line at rest end → AreTokens line 0 tokens stop → stop ≡ end

-- the tokens of the line end with the line
abbrev pub IsWhole : List ℕ → Type 0
IsWhole line = (tokens : List Placed) (end : Option TextCode) → AreTokens line 0 tokens end → end ≡ None

-- of these tokens of the line the first is this one, and the others are left in the line `left` from `at` on
pub record IsTaken (line : List ℕ) (tokens : List Placed) (what : Lexeme) (left : List ℕ) (at : ℕ) : Type 0 where
  pub first : Placed
  pub rest : List Placed
  pub are : tokens ≡ first ∷ rest
  pub what_is : first.what ≡ what
  pub to : at ≡ first.to
  pub same : left ≡ line
  pub behind : AreTokens left at rest None

-- no word comes first
abbrev pub NoWord : List Lexeme → Type 0
NoWord (AWord word ∷ rest) = ⊥
NoWord _ = Unit {0}

-- no number
abbrev pub NoNumber : List Lexeme → Type 0
NoNumber (ANumber number ∷ rest) = ⊥
NoNumber _ = Unit {0}

-- no quoted text
abbrev pub NoQuoted : List Lexeme → Type 0
NoQuoted (AQuote text ∷ rest) = ⊥
NoQuoted _ = Unit {0}

-- the number writes this moment, or it writes none
abbrev pub Writes : List ℕ → ℤ → Type 0
Writes number value = IsMoment (number_value number) × (value ≡ number_value number)

abbrev pub IsFar : List ℕ → TextCode → Type 0
IsFar number code = (code ≡ TextCode.Number) × (¬ IsMoment (number_value number))

-- the text is this name, or it is too long for one
abbrev pub Names : Word → Word → Type 0
Names text name = (length text ≤ MAX_NAME) × (name ≡ text)

abbrev pub IsLong : Word → TextCode → Type 0
IsLong text code = (code ≡ TextCode.Name) × (MAX_NAME < length text)

-- the tokens are two numbers, which write these moments
abbrev pub AreSpan : List Lexeme → ℤ → ℤ → Type 0
AreSpan (ANumber first ∷ ANumber second ∷ []) from to = Writes first from × Writes second to
AreSpan _ from to = ⊥

-- they aren't: they are other tokens, or one of the numbers writes no moment
abbrev pub NoSpan : List Lexeme → TextCode → Type 0
NoSpan (ANumber first ∷ ANumber second ∷ []) code = IsFar first code ⊎ IsFar second code
NoSpan _ code = code ≡ TextCode.Text

-- the tokens are a name and two numbers
abbrev pub AreNameAndSpan : List Lexeme → Word → ℤ → ℤ → Type 0
AreNameAndSpan (AWord word ∷ rest) name from to = Names word name × AreSpan rest from to
AreNameAndSpan _ name from to = ⊥

-- they aren't: no span stands behind a word, or the word is too long
abbrev pub NoNameAndSpan : List Lexeme → TextCode → Type 0
NoNameAndSpan (AWord word ∷ rest) code = NoSpan rest code ⊎ ((from : ℤ) × (to : ℤ) × AreSpan rest from to × IsLong word code)
NoNameAndSpan _ code = code ≡ TextCode.Text

-- the tokens are a name alone
abbrev pub IsOnlyName : List Lexeme → Word → Type 0
IsOnlyName (AWord word ∷ []) name = Names word name
IsOnlyName _ name = ⊥

-- they aren't: they are other tokens, or the word is too long
abbrev pub NoOnlyName : List Lexeme → TextCode → Type 0
NoOnlyName (AWord word ∷ []) code = IsLong word code
NoOnlyName _ code = code ≡ TextCode.Text

-- what stands behind a comma that comes first among these tokens of the line is left in the line `left` from `at` on
pub record IsBehindComma (line : List ℕ) (tokens : List Placed) (left : List ℕ) (at : ℕ) : Type 0 where
  pub rest : List Placed
  pub comma : behind_comma (lexemes tokens) ≡ Some (lexemes rest)
  pub same : left ≡ line
  pub behind : AreTokens left at rest None

-- a list of at most n labels comes first, and what stands behind it is left
pub record AreListed (line : List ℕ) (n : ℕ) (tokens : List Placed) (left : List ℕ) (at : ℕ) : Type 0 where
  pub words : List Word
  pub rest : List Placed
  pub are : listed n (lexemes tokens) ≡ Some (record { words = words; rest = lexemes rest })
  pub same : left ≡ line
  pub behind : AreTokens left at rest None

-- no list of at most n labels comes first
abbrev pub NoneListed : ℕ → List Placed → TextCode → Type 0
NoneListed n tokens code = (code ≡ TextCode.Text) × (listed n (lexemes tokens) ≡ None)

-- where a list of labels comes first, the answer is its set, or that some label is too long
abbrev pub AreLabels : List Placed → Result (List Word) TextCode → Type 0
AreLabels tokens result = (l : Listed) → listed MAX_LABELS (lexemes tokens) ≡ Some l →
    MatchResult result (λ set. AreShort l.words × (set ≡ set_of l.words)) (λ code. (code ≡ TextCode.Name) × (¬ AreShort l.words))
