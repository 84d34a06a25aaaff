-- The bytes of one word token.
use Rattle.std.proofs.Common.{◌≡◌, ℕ, List, [], ◌∷◌, Bool, true, false, ◌&&◌, ◌||◌, nat_eq, Option, Some, None, refl, sym, ap, ◌∙◌, subst, true≢false, if◌then◌else◌, option_map}
use Rattle.std.specs.Char.{is_ascii_alphabetic}
use Rattle.std.specs.Int.{is_in_range}
use Rattle.std.specs.List.{list_all, take_while}
use Rattle.std.proofs.lemmas.Bool.{and_parts}
use Rattle.std.proofs.lemmas.List.Sums.{take_while-cons}
use Rattle.script_lex.specs.declared.mark.Mark.{Mark}
use Rattle.script_lex.specs.Bytes.{is_word_byte}
use Rattle.script_lex.specs.Lexemes.{Lexeme, AWord, ANumber, AQuote, AMark}
use Rattle.script_lex.specs.Marks.{first_mark, double_marks, single_marks}
use Rattle.script_lex.specs.Table.{first_token, first_some, number_row, quoted_row, double_row, single_row}
use Rattle.script_lex.proofs.Runs.{run_passes}
use Rattle.edit_reader.specs.Names.{is_word}

whole_run : (p : ℕ → Bool) (xs : List ℕ) → list_all p xs ≡ true → take_while p xs ≡ xs
whole_run p [] e = refl
whole_run p (x ∷ xs) e =
    let both = and_parts (p x) (list_all p xs) e in
    take_while-cons p x xs ∙ rw (both.0) (ap (λ t. x ∷ t) (whole_run p xs both.1))

-- a word is the token with which it begins
pub word_token : (w : List ℕ) → is_word w ≡ true → first_token w ≡ Some (AWord w)
unfolding first_token
word_token [] e = absurd (true≢false (sym e))
word_token (b ∷ bs) e =
    let both = and_parts (is_ascii_alphabetic b) (is_word_byte b && list_all is_word_byte bs) e in
    let rest = and_parts (is_word_byte b) (list_all is_word_byte bs) both.1 in
    rw (both.0) (ap (λ t. Some (AWord (b ∷ t))) (whole_run is_word_byte bs rest.1))

-- a letter is a word byte
letter_in : (p q r s : Bool) → (q || r) ≡ true → (((p || q) || r) || s) ≡ true
letter_in true q r s e = refl
letter_in false true r s e = refl
letter_in false false true s e = refl
letter_in false false false s e = absurd (let never : ⊥ = cc in never)

-- a token that is no word, if there is one
abbrev IsNoWord : Option Lexeme → Type 0
IsNoWord (Some (AWord w)) = ⊥
IsNoWord _ = Unit {0}

no_number : (b : Bool) (n : List ℕ) → IsNoWord (if b then Some (ANumber n) else None)
no_number true n = tt
no_number false n = tt

no_quote : (b : Bool) (q : List ℕ) → IsNoWord (if b then Some (AQuote q) else None)
no_quote true q = tt
no_quote false q = tt

no_mark : (m : Option Mark) → IsNoWord (option_map AMark m)
no_mark None = tt
no_mark (Some m) = tt

number_is_none : (bytes : List ℕ) → IsNoWord (number_row bytes)
number_is_none [] = tt
number_is_none (b ∷ bs) = no_number _ _

quoted_is_none : (bytes : List ℕ) → IsNoWord (quoted_row bytes)
quoted_is_none [] = tt
quoted_is_none (b ∷ bs) = no_quote _ _

one_more : (row : Option Lexeme) (rest : List (Option Lexeme)) → IsNoWord row → IsNoWord (first_some rest) → IsNoWord (first_some (row ∷ rest))
one_more None rest h k = k
one_more (Some (AWord w)) rest h k = absurd h
one_more (Some (ANumber n)) rest h k = tt
one_more (Some (AQuote q)) rest h k = tt
one_more (Some (AMark m)) rest h k = tt

-- the rows below that of words give none
others : (bytes : List ℕ) → IsNoWord (first_some (number_row bytes ∷ quoted_row bytes ∷ double_row bytes ∷ single_row bytes ∷ []))
others bytes =
    one_more (number_row bytes) _ (number_is_none bytes) (one_more (quoted_row bytes) _ (quoted_is_none bytes) (one_more (double_row bytes) _ (no_mark (first_mark double_marks bytes)) (one_more (single_row bytes) [] (no_mark (first_mark single_marks bytes)) tt)))

no_other : (o : Option Lexeme) (w : List ℕ) → IsNoWord o → o ≡ Some (AWord w) → ⊥
no_other o w h e = subst IsNoWord e h

run_of : (b : ℕ) (bs w : List ℕ) → is_ascii_alphabetic b ≡ true → b ∷ take_while is_word_byte bs ≡ w → is_word w ≡ true
run_of b bs w letter e =
    let first : is_word_byte b ≡ true = letter_in (is_in_range 48 57 b) (is_in_range 65 90 b) (is_in_range 97 122 b) (nat_eq b 95) letter in
    let P : List ℕ → Type 0 = λ v. is_word v ≡ true in
    subst P e (rw (letter, first, run_passes is_word_byte bs) refl)

by_letter : (b : ℕ) (bs w : List ℕ) (t : Bool) → is_ascii_alphabetic b ≡ t → first_some ((if t then Some (AWord (b ∷ take_while is_word_byte bs)) else None) ∷ number_row (b ∷ bs) ∷ quoted_row (b ∷ bs) ∷ double_row (b ∷ bs) ∷ single_row (b ∷ bs) ∷ []) ≡ Some (AWord w)
    → is_word w ≡ true
by_letter b bs w true letter e = run_of b bs w letter (let same : b ∷ take_while is_word_byte bs ≡ w = cc in same)
by_letter b bs w false letter e = absurd (no_other _ w (others (b ∷ bs)) e)

-- bytes that begin with a word token begin with a word
pub first_word : (bytes w : List ℕ) → first_token bytes ≡ Some (AWord w) → is_word w ≡ true
unfolding first_token
first_word [] w e = absurd (no_other _ w (others []) e)
first_word (b ∷ bs) w e = by_letter b bs w (is_ascii_alphabetic b) refl e
