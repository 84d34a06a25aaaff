-- A token taken from the front of the tokens of a line.
use Rattle.std.proofs.Common.{◌≡◌, ℕ, List, [], ◌∷◌, Option, Some, None, refl, sym, ap, subst}
use Rattle.itpg_base.specs.declared.text_code.TextCode.{TextCode}
use Rattle.script_lex.specs.Lines.{Placed, IsNext, IsLineFault, EndsAt, AreTokens}
use Rattle.script_lex.proofs.OneList.{next_unique, next_goes_on, tokens_unique}
use Rattle.script_lex.specs.Lexemes.{Lexeme, AWord, ANumber, AQuote, AMark}
use Rattle.edit_reader.specs.Forms.{lexemes}
use Rattle.edit_reader.specs.Taken.{IsReached, IsWhole, IsTaken, NoWord, NoNumber}

-- the next token is the first of them
pub next_taken : (line : List ℕ) (at : ℕ) (t : Placed) (tokens : List Placed) → IsNext line at t → AreTokens line at tokens None → IsTaken line tokens t.what line t.to
next_taken line at t [] next are = absurd (next_goes_on line at t None next are)
next_taken line at t (x ∷ xs) next are =
    let same : x ≡ t = next_unique line at x t are.0 next in record {
      first = x;
      rest = xs;
      are = refl;
      what_is = ap (λ (p : Placed). p.what) same;
      to = sym (ap (λ (p : Placed). p.to) same);
      same = refl;
      behind = subst (λ (p : Placed). AreTokens line p.to xs None) same are.1;
    }

-- there are none where the line ends
pub none_left : (line : List ℕ) (at : ℕ) (end : Option TextCode) (tokens : List Placed) → EndsAt line at end → AreTokens line at tokens None → tokens ≡ []
none_left line at end [] ends are = refl
none_left line at end (x ∷ xs) ends are = absurd (next_goes_on line at x end are.0 ends)

-- where the tokens end with the line, the line has no fault behind some of them
pub no_fault_left : (line : List ℕ) (at : ℕ) (code : TextCode) (tokens : List Placed) → IsLineFault line at code → AreTokens line at tokens None → ⊥
no_fault_left line at code tokens fault are = let same = (tokens_unique line at tokens [] None (Some code) are fault).1 in let never : ⊥ = cc in never

-- so it is with the whole line, and behind the next token
pub reached_first : (line : List ℕ) → IsReached line 0
reached_first line = λ rest tokens end stop left are. (tokens_unique line 0 tokens rest stop end are left).1

pub reached_more : (line : List ℕ) (at : ℕ) (t : Placed) → IsReached line at → IsNext line at t → IsReached line t.to
reached_more line at t r next = λ rest tokens end stop left are. r (t ∷ rest) tokens end stop (next, left) are

-- where nothing but blanks follows, all tokens have been read
pub reached_end : (line : List ℕ) (at : ℕ) → IsReached line at → EndsAt line at None → IsWhole line
reached_end line at r ends = λ tokens end are. r [] tokens None end ends are

-- where no word is next, none is the first of them
pub no_word_first : (line : List ℕ) (at : ℕ) (tokens : List Placed) → ((t : Placed) (word : List ℕ) → IsNext line at t → t.what ≡ AWord word → ⊥) → AreTokens line at tokens None → NoWord (lexemes tokens)
no_word_first line at [] none are = tt
no_word_first line at (x ∷ xs) none are = by_kind x.what refl
  where
    by_kind : (what : Lexeme) → x.what ≡ what → NoWord (what ∷ lexemes xs)
    by_kind (AWord word) e = absurd (none x word are.0 e)
    by_kind (ANumber number) e = tt
    by_kind (AQuote text) e = tt
    by_kind (AMark mark) e = tt

-- and so it is with a number
pub no_number_first : (line : List ℕ) (at : ℕ) (tokens : List Placed) → ((t : Placed) (number : List ℕ) → IsNext line at t → t.what ≡ ANumber number → ⊥) → AreTokens line at tokens None → NoNumber (lexemes tokens)
no_number_first line at [] none are = tt
no_number_first line at (x ∷ xs) none are = by_kind x.what refl
  where
    by_kind : (what : Lexeme) → x.what ≡ what → NoNumber (what ∷ lexemes xs)
    by_kind (AWord word) e = tt
    by_kind (ANumber number) e = absurd (none x number are.0 e)
    by_kind (AQuote text) e = tt
    by_kind (AMark mark) e = tt
