-- Words, numbers and quoted texts are the tokens that they are written as.
use Rattle.std.proofs.Common.{◌≡◌, ℕ, zero, suc, ◌+◌, ◌-◌, ◌%◌, ◌^◌, ◌<◌, ◌≤◌, Bool, true, false, ◌&&◌, List, [], ◌∷◌, ◌++◌, codes, length, take, Option, Some, None, refl, sym, ap, subst, ◌∙◌, arith, true≢false, cond, pos}
use Rattle.std.specs.Prelude.{nat_eq, nat_le, if◌then◌else◌}
use Rattle.std.specs.List.{prefix_len, list_all, take_while}
use Rattle.std.specs.Char.{is_ascii_alphabetic, is_ascii_digit}
use Rattle.std.specs.Fmt.{decimal}
use Rattle.std.specs.Str.Parse.{digits_value}
use Rattle.std.proofs.lemmas.Bool.{leb-true, eqb-true, and_from, or_left}
use Rattle.std.proofs.lemmas.Int.{ints}
use Rattle.std.proofs.lemmas.List.{take_at}
use Rattle.std.proofs.lemmas.List.Folds.{list_all-append}
use Rattle.std.proofs.lemmas.Fmt.{decimal_is_IsNumeral, decimal_by_steps, length-decimal-le}
use Rattle.itpg_base.specs.Spans.{IsMoment}
use Rattle.script_lex.specs.Bytes.{is_blank, is_word_byte}
use Rattle.script_lex.specs.Lexemes.{Lexeme, AWord, ANumber, AQuote}
use Rattle.script_lex.specs.Numbers.{number_value}
use Rattle.script_lex.specs.Table.{first_token, first_some, begins_number}
use Rattle.itpg_run.proofs.SpelledTokens.{behind_text, is_inside, IsSpelled}

-- the front that passes, behind which nothing does
front_len : (p : ℕ → Bool) (xs ys : List ℕ) → list_all p xs ≡ true → prefix_len p ys ≡ 0 → prefix_len p (xs ++ ys) ≡ length xs
front_len p [] ys h e = e
front_len p (x ∷ xs) ys h e = by_test (p x) refl h (front_len p xs ys)
  where
    by_test : (b : Bool) → p x ≡ b → (b && list_all p xs) ≡ true → (list_all p xs ≡ true → prefix_len p ys ≡ 0 → prefix_len p (xs ++ ys) ≡ length xs) → cond (p x) (1 + prefix_len p (xs ++ ys)) 0 ≡ suc (length xs)
    by_test true px all go = rw px (let r : prefix_len p (xs ++ ys) ≡ length xs = go all e in omega (arith, r))
    by_test false px all go = absurd (true≢false (sym all))

front_is : (p : ℕ → Bool) (xs ys : List ℕ) → list_all p xs ≡ true → prefix_len p ys ≡ 0 → take_while p (xs ++ ys) ≡ xs
front_is p xs ys h e = ap (λ k. take k (xs ++ ys)) (front_len p xs ys h e) ∙ take_at xs ys (length xs) refl

word_stops : (ls : List Lexeme) → prefix_len is_word_byte (behind_text ls) ≡ 0
word_stops [] = refl
word_stops (l ∷ ls) = refl

digits_stop : (ls : List Lexeme) → prefix_len is_ascii_digit (behind_text ls) ≡ 0
digits_stop [] = refl
digits_stop (l ∷ ls) = refl

pub and_left : (a b : Bool) → (a && b) ≡ true → a ≡ true
and_left true b e = refl
and_left false b e = e

pub and_right : (a b : Bool) → (a && b) ≡ true → b ≡ true
and_right true b e = e
and_right false b e = absurd (true≢false (sym e))

all_so : (p q : ℕ → Bool) → ((x : ℕ) → p x ≡ true → q x ≡ true) → (xs : List ℕ) → list_all p xs ≡ true → list_all q xs ≡ true
all_so p q go [] h = refl
all_so p q go (x ∷ xs) h = and_from (q x) (list_all q xs) (go x (and_left (p x) (list_all p xs) h)) (all_so p q go xs (and_right (p x) (list_all p xs) h))

-- the ten digits
ten_times : (P : ℕ → Type 0) → P 48 → P 49 → P 50 → P 51 → P 52 → P 53 → P 54 → P 55 → P 56 → P 57 → (k : ℕ) → k < 10 → P (48 + k)
ten_times P a b c d e f g h i j zero lt = a
ten_times P a b c d e f g h i j (suc zero) lt = b
ten_times P a b c d e f g h i j (suc (suc zero)) lt = c
ten_times P a b c d e f g h i j (suc (suc (suc zero))) lt = d
ten_times P a b c d e f g h i j (suc (suc (suc (suc zero)))) lt = e
ten_times P a b c d e f g h i j (suc (suc (suc (suc (suc zero))))) lt = f
ten_times P a b c d e f g h i j (suc (suc (suc (suc (suc (suc zero)))))) lt = g
ten_times P a b c d e f g h i j (suc (suc (suc (suc (suc (suc (suc zero))))))) lt = h
ten_times P a b c d e f g h i j (suc (suc (suc (suc (suc (suc (suc (suc zero)))))))) lt = i
ten_times P a b c d e f g h i j (suc (suc (suc (suc (suc (suc (suc (suc (suc zero))))))))) lt = j
ten_times P a b c d e f g h i j (suc (suc (suc (suc (suc (suc (suc (suc (suc (suc k)))))))))) lt = absurd (omega (arith, lt))

digit_so : (P : ℕ → Type 0) → P 48 → P 49 → P 50 → P 51 → P 52 → P 53 → P 54 → P 55 → P 56 → P 57 → (b : ℕ) → is_ascii_digit b ≡ true → P b
digit_so P z a c d e f g h i j b digit =
    let low : 48 ≤ b = leb-true 48 b (and_left (nat_le 48 b) (nat_le b 57) digit) in
    let high : b ≤ 57 = leb-true b 57 (and_right (nat_le 48 b) (nat_le b 57) digit) in
    subst P (let s : 48 + (b - 48) ≡ b = omega (arith, low) in s) (ten_times P z a c d e f g h i j (b - 48) (omega (arith, low, high)))

digit_word : (b : ℕ) → is_ascii_digit b ≡ true → is_word_byte b ≡ true
digit_word = digit_so (λ b. is_word_byte b ≡ true) refl refl refl refl refl refl refl refl refl refl

digit_loud : (b : ℕ) → is_ascii_digit b ≡ true → is_blank b ≡ false
digit_loud = digit_so (λ b. is_blank b ≡ false) refl refl refl refl refl refl refl refl refl refl

digit_inside : (b : ℕ) → is_ascii_digit b ≡ true → is_inside b ≡ true
digit_inside = digit_so (λ b. is_inside b ≡ true) refl refl refl refl refl refl refl refl refl refl

digit_no_letter : (b : ℕ) → is_ascii_digit b ≡ true → is_ascii_alphabetic b ≡ false
digit_no_letter = digit_so (λ b. is_ascii_alphabetic b ≡ false) refl refl refl refl refl refl refl refl refl refl

digit_no_dash : (b : ℕ) → is_ascii_digit b ≡ true → nat_eq b 45 ≡ false
digit_no_dash = digit_so (λ b. nat_eq b 45 ≡ false) refl refl refl refl refl refl refl refl refl refl

is_digit : (k : ℕ) → k < 10 → is_ascii_digit (48 + k) ≡ true
is_digit = ten_times (λ b. is_ascii_digit b ≡ true) refl refl refl refl refl refl refl refl refl refl

-- a number in tens
pub decimal_digits : (n : ℕ) → n < 2 ^ 64 → list_all is_ascii_digit (decimal n) ≡ true
decimal_digits = decimal_by_steps (λ n ds. list_all is_ascii_digit ds ≡ true) (λ n lt. and_from (is_ascii_digit (48 + n)) true (is_digit n lt) refl)
    (λ n ds ten h. list_all-append is_ascii_digit ds ((48 + n % 10) ∷ []) ∙ and_from (list_all is_ascii_digit ds) (is_ascii_digit (48 + n % 10) && true) h (and_from (is_ascii_digit (48 + n % 10)) true (is_digit (n % 10) (omega arith)) refl))

-- a row that fits comes first
first_row : (a : Bool) (x : Lexeme) (rest : List (Option Lexeme)) → a ≡ true → first_some ((if a then Some x else None) ∷ rest) ≡ Some x
first_row true x rest e = refl
first_row false x rest e = absurd (true≢false (sym e))

second_row : (a b : Bool) (x y : Lexeme) (rest : List (Option Lexeme)) → a ≡ false → b ≡ true → first_some ((if a then Some x else None) ∷ (if b then Some y else None) ∷ rest) ≡ Some y
second_row true b x y rest e f = absurd (true≢false e)
second_row false true x y rest e f = refl
second_row false false x y rest e f = absurd (true≢false (sym f))

word_inside : (b : ℕ) → is_word_byte b ≡ true → is_inside b ≡ true
word_inside b h = by_test (nat_eq b 13) refl
  where
    by_test : (t : Bool) → nat_eq b 13 ≡ t → is_inside b ≡ true
    by_test true e = absurd (true≢false (sym h ∙ ap is_word_byte (eqb-true b 13 e)))
    by_test false e = rw e refl

-- a letter and word bytes
pub word_spelled : (b : ℕ) (bs : List ℕ) → is_ascii_alphabetic b ≡ true → is_blank b ≡ false → list_all is_word_byte (b ∷ bs) ≡ true → length bs ≤ 63 → IsSpelled (AWord (b ∷ bs))
unfolding first_token
word_spelled b bs letter loud word short = record {
  begins = λ rest. ap (λ t. cond t (1 + prefix_len is_blank (bs ++ rest)) 0) loud;
  token = λ ls.
      first_row (is_ascii_alphabetic b) (AWord (b ∷ take_while is_word_byte (bs ++ behind_text ls))) _ letter
      ∙ ap (λ (w : List ℕ). Some (AWord (b ∷ w))) (front_is is_word_byte bs (behind_text ls) (and_right (is_word_byte b) (list_all is_word_byte bs) word) (word_stops ls));
  short = omega (arith, short);
  inside = all_so is_word_byte is_inside word_inside (b ∷ bs) word;
  near = omega (arith, short);
}

-- digits
pub number_spelled : (n : List ℕ) → 0 < length n → list_all is_ascii_digit n ≡ true → length n ≤ 66 → IsMoment (number_value n) → IsSpelled (ANumber n)
unfolding first_token
number_spelled [] some digits short near = absurd (omega (arith, some))
number_spelled (b ∷ bs) some digits short near =
    let digit : is_ascii_digit b ≡ true = and_left (is_ascii_digit b) (list_all is_ascii_digit bs) digits in
    record {
      begins = λ rest. ap (λ t. cond t (1 + prefix_len is_blank (bs ++ rest)) 0) (digit_loud b digit);
      token = λ ls.
          second_row (is_ascii_alphabetic b) (begins_number (b ∷ (bs ++ behind_text ls))) (AWord (b ∷ take_while is_word_byte (bs ++ behind_text ls))) (ANumber (b ∷ take_while is_ascii_digit (bs ++ behind_text ls))) _ (digit_no_letter b digit) (or_left (is_ascii_digit b) _ digit)
          ∙ ap (λ (w : List ℕ). Some (ANumber (b ∷ w))) (front_is is_ascii_digit bs (behind_text ls) (and_right (is_ascii_digit b) (list_all is_ascii_digit bs) digits) (digits_stop ls));
      short = short;
      inside = all_so is_ascii_digit is_inside digit_inside (b ∷ bs) digits;
      near = near;
    }

-- what the digits of a number stand for
value_of_digits : (n : List ℕ) → 0 < length n → list_all is_ascii_digit n ≡ true → number_value n ≡ pos (digits_value 10 n)
value_of_digits [] some digits = absurd (omega (arith, some))
value_of_digits (b ∷ bs) some digits = rw (digit_no_dash b (and_left (is_ascii_digit b) (list_all is_ascii_digit bs) digits)) refl

module _ (n : ℕ) (low : n < 100000) where
  fits : n < 2 ^ 64
  fits = omega (arith, low)

  pub decimal_value : number_value (decimal n) ≡ pos n
  decimal_value = value_of_digits (decimal n) (decimal_is_IsNumeral n fits).0.0 (decimal_digits n fits) ∙ ap pos (decimal_is_IsNumeral n fits).1

  pub short_decimal : length (decimal n) ≤ 5
  short_decimal = length-decimal-le 5 n (omega arith) (omega (arith, low)) fits

  near_moment : IsMoment (pos n)
  near_moment = record { least = omega (arith, ints, low); greatest = omega (arith, ints, low) }

  pub decimal_spelled : IsSpelled (ANumber (decimal n))
  decimal_spelled = number_spelled (decimal n) (decimal_is_IsNumeral n fits).0.0 (decimal_digits n fits) (omega (arith, short_decimal)) (subst IsMoment (sym decimal_value) near_moment)

  -- a letter and the number
  pub name_spelled : (b : ℕ) → is_ascii_alphabetic b ≡ true → is_blank b ≡ false → is_word_byte b ≡ true → IsSpelled (AWord (b ∷ decimal n))
  name_spelled b letter loud word = word_spelled b (decimal n) letter loud (and_from (is_word_byte b) (list_all is_word_byte (decimal n)) word (all_so is_ascii_digit is_word_byte digit_word (decimal n) (decimal_digits n fits))) (omega (arith, short_decimal))

-- the two quoted texts
pub high_spelled : IsSpelled (AQuote (codes "high"))
unfolding first_token
high_spelled = record { begins = λ rest. refl; token = λ ls. refl; short = omega arith; inside = refl; near = omega arith }

pub pos_spelled : IsSpelled (AQuote (codes "pos"))
unfolding first_token
pos_spelled = record { begins = λ rest. refl; token = λ ls. refl; short = omega arith; inside = refl; near = omega arith }
