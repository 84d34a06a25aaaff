-- The lexemes at the front of a text: a blank is none, an operator is one, and so is a string with no escapes or a whole number.
use Rattle.std.proofs.Common.{◌≡◌, ◌||◌, ℕ, ℤ, pos, neg_ℤ, w64, zero, suc, ◌+◌, ◌^◌, ◌<◌, List, [], ◌∷◌, ◌++◌, length, take, drop, get_or, Bool, true, false, cond, ◌==◌, ◌⊎◌, inl, inr, decimal, refl, sym, ap, ap₂, ◌∙◌, subst, arith}
use Rattle.std.proofs.lemmas.Bool.{and_parts, and_from, le-leb, leb-true, or_cases, eqb-true, eqb-false, ltb-false, or_parts, not-true}
use Rattle.std.proofs.lemmas.List.{drop_more}
use Rattle.std.proofs.lemmas.Fmt.{decimal-digits_value}
use Rattle.std.proofs.lemmas.Str.Parse.{numerals_by_value, IsDigitsTest}
use Rattle.std.specs.List.{prefix_len, list_all}
use Rattle.std.specs.Char.{is_ascii_digit}
use Rattle.std.specs.Prelude.{leb}
use mir.Val.{to_z, of_z, SFits}
use lib.IntN.{◌-ℤ◌}
use lib.Signed.{mag}
use Rattle.std.proofs.lemmas.Int.{to_z_pos, to_z-of_z, ints}
use Rattle.std.specs.Fmt.{signed_decimal}
use Rattle.std.specs.Str.Parse.{digits_value}
use Rattle.json.specs.Token.{string, number}
use Rattle.json.specs.Word.{is_operator, is_space, ends_word}
use Rattle.json.specs.Lex.{lex, between, token, operator_lexeme, string_token}
use Rattle.json.specs.Run.{is_plain}
use Rattle.json_port.specs.Flats.{is_plain_ascii}
use Rattle.json.specs.Print.{escape}
use Rattle.json.proofs.Printed.Strings.{escape_byte_plain, content-escape, lex-escape}
use Rattle.json.proofs.Printed.Numbers.{lex-number}
use Rattle.json.proofs.Printed.Decimals.{IsNumber-signed_decimal}

abbrev IsPassed : ℕ → Type 0
IsPassed x = (xs : List ℕ) → lex between (x ∷ xs) ≡ lex between xs

space_passed : IsPassed 32
unfolding lex
space_passed xs = refl

tab_passed : IsPassed 9
unfolding lex
tab_passed xs = refl

feed_passed : IsPassed 10
unfolding lex
feed_passed xs = refl

return_passed : IsPassed 13
unfolding lex
return_passed xs = refl

pub last_is : (P : ℕ → Type 0) (x c : ℕ) (b : Bool) → (b ≡ true → P x) → P c → (b || (x == c)) ≡ true → P x
last_is P x c b before here h = go (or_cases b (x == c) h)
  where
    go : (b ≡ true) ⊎ ((x == c) ≡ true) → P x
    go (inl e) = before e
    go (inr e) = subst P (sym (eqb-true x c e)) here

blank_passed : (x : ℕ) → is_space x ≡ true → IsPassed x
blank_passed x = last_is IsPassed x 13 _ (last_is IsPassed x 10 _ (last_is IsPassed x 9 _ (λ e. subst IsPassed (sym (eqb-true x 32 e)) space_passed) tab_passed) feed_passed) return_passed

-- a blank is passed over
pub blank_at : (d : List ℕ) (i : ℕ) → i < length d → is_space (get_or d i 0) ≡ true → lex between (drop (i + 1) d) ≡ lex between (drop i d)
blank_at d i lt h = sym (ap (lex between) (drop_more d i 0 lt) ∙ blank_passed (get_or d i 0) h (drop (i + 1) d))

abbrev IsOne : ℕ → Type 0
IsOne x = (xs : List ℕ) → lex between (x ∷ xs) ≡ operator_lexeme x ∷ lex between xs

open_brace : IsOne 123
unfolding lex
open_brace xs = refl

close_brace : IsOne 125
unfolding lex
close_brace xs = refl

open_bracket : IsOne 91
unfolding lex
open_bracket xs = refl

close_bracket : IsOne 93
unfolding lex
close_bracket xs = refl

colon_one : IsOne 58
unfolding lex
colon_one xs = refl

comma_one : IsOne 44
unfolding lex
comma_one xs = refl

-- an operator is a lexeme by itself
operator_read : (x : ℕ) → is_operator x ≡ true → IsOne x
operator_read x =
    last_is IsOne x 44 _ (last_is IsOne x 58 _ (last_is IsOne x 93 _ (last_is IsOne x 91 _ (last_is IsOne x 125 _ (λ e. subst IsOne (sym (eqb-true x 123 e)) open_brace) close_brace) open_bracket) close_bracket) colon_one) comma_one

pub operator_first : (text behind rest : List ℕ) (x byte : ℕ) → lex between behind ≡ lex between text → behind ≡ x ∷ rest → x ≡ byte → is_operator byte ≡ true
    → lex between text ≡ operator_lexeme byte ∷ lex between rest
operator_first text behind rest x byte blanks is same h =
    sym blanks ∙ ap (lex between) (is ∙ ap (λ y. y ∷ rest) same) ∙ operator_read byte h rest

-- ---- strings

unescaped_byte : (p : Bool) (x n : ℕ) (xs : List ℕ) → is_plain_ascii x ≡ p → escape (take n xs) ≡ take n xs → escape (take (cond p (suc n) 0) (x ∷ xs)) ≡ take (cond p (suc n) 0) (x ∷ xs)
unescaped_byte false x n xs e ih = refl
unescaped_byte true x n xs e ih =
    let none = or_parts ((x == 34) || (x == 92)) _ (not-true _ (and_parts (is_plain x) _ e).0) in
    let tests = or_parts (x == 34) _ none.0 in
    ap₂ (λ a b. a ++ b) (escape_byte_plain x (eqb-false x 34 tests.0) (eqb-false x 92 tests.1) (ltb-false x 32 none.1)) ih

-- plain bytes stand for themselves
unescaped : (xs : List ℕ) → escape (take (prefix_len is_plain_ascii xs) xs) ≡ take (prefix_len is_plain_ascii xs) xs
unescaped [] = refl
unescaped (x ∷ xs) =
    let next : suc (prefix_len is_plain_ascii xs) ≡ 1 + prefix_len is_plain_ascii xs = omega arith in
    subst (λ n. escape (take (cond (is_plain_ascii x) n 0) (x ∷ xs)) ≡ take (cond (is_plain_ascii x) n 0) (x ∷ xs)) next
    (unescaped_byte (is_plain_ascii x) x (prefix_len is_plain_ascii xs) xs refl (unescaped xs))

quoted_text : (s rest : List ℕ) → escape s ≡ s → lex between (34 ∷ s ++ 34 ∷ rest) ≡ token (string s) ∷ lex between rest
unfolding lex
quoted_text s rest e =
    ap (λ t. lex between (34 ∷ t ++ 34 ∷ rest)) (sym e) ∙ ap₂ (λ o l. token (string_token o) ∷ l) (content-escape s rest) (lex-escape s rest)

pub string_first : (text behind inside front back rest : List ℕ) (first last n : ℕ) → lex between behind ≡ lex between text → behind ≡ first ∷ inside → first ≡ 34
    → n ≡ prefix_len is_plain_ascii inside → front ≡ take n inside → inside ≡ front ++ back → back ≡ last ∷ rest → last ≡ 34 → lex between text ≡ token (string front) ∷ lex between rest
string_first text behind inside front back rest first last n blanks is opens count taken whole ends closes =
    let plain : escape front ≡ front = subst (λ t. escape t ≡ t) (sym (taken ∙ ap (λ m. take m inside) count)) (unescaped inside) in
    let shape : behind ≡ 34 ∷ front ++ 34 ∷ rest = is ∙ ap₂ (λ x t. x ∷ t) opens (whole ∙ ap (λ t. front ++ t) (ends ∙ ap (λ x. x ∷ rest) closes)) in
    sym blanks ∙ ap (lex between) shape ∙ quoted_text front rest plain

-- ---- numbers

-- each byte is a digit
abbrev AreDigits : List ℕ → Type 0
AreDigits ds = list_all is_ascii_digit ds ≡ true

tells_tested : IsDigitsTest AreDigits
tells_tested = record {
  empty = refl;
  parts = λ c cs e. let k = and_parts (is_ascii_digit c) (list_all is_ascii_digit cs) e in let m = and_parts (leb 48 c) (leb c 57) k.0 in ((leb-true 48 c m.0, leb-true c 57 m.1), k.1);
  more = λ c cs k e. and_from (is_ascii_digit c) (list_all is_ascii_digit cs) (and_from (leb 48 c) (leb c 57) (le-leb 48 c k.0) (le-leb c 57 k.1)) e;
}

-- digits with no needless zero are the decimal text of their number
pub size_text : (text ds rest : List ℕ) (n : ℕ) → n ≡ digits_value 10 ds → list_all is_ascii_digit ds ≡ true → n < 2 ^ 64 → 0 < length ds → (get_or ds 0 0 ≡ 48 → length ds ≡ 1) → text ≡ ds ++ rest → text ≡ decimal n ++ rest
size_text text ds rest n is all fits some alone whole =
    whole ∙ ap (λ t. t ++ rest) (sym (decimal-digits_value (numerals_by_value AreDigits tells_tested) ds all some alone (subst (λ m. m < 2 ^ 64) is fits)) ∙ ap decimal (sym is))

number_text : (z : ℤ) (rest : List ℕ) → mag z < 2 ^ 63 → ends_word rest ≡ true → lex between (signed_decimal z ++ rest) ≡ token (number (signed_decimal z)) ∷ lex between rest
number_text z rest h ended = lex-number (signed_decimal z) rest (IsNumber-signed_decimal z h) ended

pub number_first : (text behind rest : List ℕ) (n : ℕ) → lex between behind ≡ lex between text → behind ≡ decimal n ++ rest → n < 2 ^ 63 → ends_word rest ≡ true
    → lex between text ≡ token (number (signed_decimal (pos n))) ∷ lex between rest
number_first text behind rest n blanks is fits ended = sym blanks ∙ ap (lex between) is ∙ number_text (pos n) rest fits ended

pub negative_first : (text behind digits rest : List ℕ) (first n : ℕ) → lex between behind ≡ lex between text → behind ≡ first ∷ digits → first ≡ 45 → digits ≡ decimal n ++ rest
    → n < 2 ^ 63 → (n ≡ 0 → ⊥) → ends_word rest ≡ true → lex between text ≡ token (number (signed_decimal (neg_ℤ (pos n)))) ∷ lex between rest
negative_first text behind digits rest first zero blanks is minus whole fits some ended = absurd (some refl)
negative_first text behind digits rest first (suc n) blanks is minus whole fits some ended =
    sym blanks ∙ ap (lex between) (is ∙ ap₂ (λ x t. x ∷ t) minus whole) ∙ number_text (neg_ℤ (pos (suc n))) rest (omega arith) ended

below_zero : (n : ℕ) → pos 0 -ℤ pos n ≡ neg_ℤ (pos n)
below_zero n = omega (arith, ints)

fits_below : (n : ℕ) → n < 2 ^ 63 → SFits w64 (neg_ℤ (pos n))
fits_below zero h = grind arith
fits_below (suc n) h = grind arith

pub negated : (n : ℕ) → n < 2 ^ 63 → to_z w64 (of_z w64 (pos 0 -ℤ to_z w64 n)) ≡ neg_ℤ (pos n)
negated n h = ap (λ z. to_z w64 (of_z w64 (pos 0 -ℤ z))) (to_z_pos w64 n h) ∙ ap (λ z. to_z w64 (of_z w64 z)) (below_zero n) ∙ to_z-of_z w64 (neg_ℤ (pos n)) (fits_below n h)
