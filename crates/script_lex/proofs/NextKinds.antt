-- A word or a number where it is the next token, and why no other token is one.
use Rattle.std.proofs.Common.{◌≡◌, ℕ, ◌+◌, ◌-◌, List, [], ◌∷◌, Bool, true, false, Option, Some, None, inl, inr, length, take, drop, refl, sym, ap, ◌∙◌, subst, arith}
use Rattle.std.specs.Prelude.{if◌then◌else◌, option_map, slice_get, slice_index, nat_eq, ◌&&◌}
use Rattle.std.specs.Char.{is_ascii_alphabetic, is_ascii_digit}
use Rattle.std.specs.List.{prefix_len, take_while}
use Rattle.std.proofs.lemmas.Option.{same_Some}
use Rattle.itpg_base.proofs.Lists.{take_rest}
use Rattle.script_lex.specs.declared.mark.Mark.{Mark}
use Rattle.script_lex.specs.Bytes.{is_word_byte, is_plain, begins_with}
use Rattle.script_lex.specs.Marks.{first_mark, double_marks, single_marks}
use Rattle.script_lex.specs.Lexemes.{Lexeme, AWord, ANumber, AQuote, AMark, written}
use Rattle.script_lex.specs.Table.{word_row, number_row, begins_number, quoted_row, double_row, single_row, first_token}
use Rattle.script_lex.specs.Lines.{Placed, IsNext, behind_blanks}
use Rattle.script_lex.proofs.Fronts.{row_or_later}
use Rattle.script_lex.proofs.Places.{token_at}

-- what is read behind the blanks is the next token, and no other
module _ (line : List ℕ) (at from : ℕ) (place : from ≡ behind_blanks line at) where
  pub is_next : (t : Lexeme) (to : ℕ) → first_token (take (length line - from) (drop from line)) ≡ Some t → to ≡ from + length (written t) → IsNext line at (record { from = behind_blanks line at; to = to; what = t })
  is_next t to e ends = record {
    from = refl;
    what = subst (λ (k : ℕ). first_token (drop k line) ≡ Some t) place (token_at line from t e);
    to = ends ∙ ap (λ (k : ℕ). k + length (written t)) place;
  }

  pub only_next : (t : Placed) → IsNext line at t → first_token (take (length line - from) (drop from line)) ≡ Some t.what
  only_next t next = ap first_token (take_rest line from) ∙ ap (λ (k : ℕ). first_token (drop k line)) (place ∙ sym next.from) ∙ next.what

-- a row that fits gives the one token that it is for
picked : (fits : Bool) (s t : Lexeme) → (if fits then Some s else None) ≡ Some t → s ≡ t
picked true s t e = same_Some s t e
picked false s t e = absurd (let none : ⊥ = cc in none)

marked : (m : Option Mark) (t : Lexeme) → option_map AMark m ≡ Some t → (k : Mark) × (AMark k ≡ t)
marked (Some k) t e = (k, same_Some (AMark k) t e)
marked None t e = absurd (let none : ⊥ = cc in none)

pub no_token : (t : Lexeme) → first_token [] ≡ Some t → ⊥
unfolding first_token first_mark
no_token t e = let none : ⊥ = cc in none

pub no_word : (b : ℕ) (bs word : List ℕ) → is_ascii_alphabetic b ≡ false → first_token (b ∷ bs) ≡ Some (AWord word) → ⊥
unfolding first_token
no_word b bs word a e =
    let bytes : List ℕ = b ∷ bs in
    let number = number_row bytes in
    let quoted = quoted_row bytes in
    let double = double_row bytes in
    let single = single_row bytes in
    elim (row_or_later (word_row bytes) (number ∷ quoted ∷ double ∷ single ∷ []) (AWord word) e) [
      | inl w ↦ let f : None ≡ Some (AWord word) = rw a at w in let none : ⊥ = cc in none
      | inr e1 ↦ elim (row_or_later number (quoted ∷ double ∷ single ∷ []) (AWord word) e1) [
        | inl n ↦ let is = picked (begins_number bytes) (ANumber (b ∷ take_while is_ascii_digit bs)) (AWord word) n in let none : ⊥ = cc in none
        | inr e2 ↦ elim (row_or_later quoted (double ∷ single ∷ []) (AWord word) e2) [
          | inl q ↦ let is = picked (nat_eq b 39 && begins_with (λ c. nat_eq c 39) (drop (prefix_len is_plain bs) bs)) (AQuote (take_while is_plain bs)) (AWord word) q in let none : ⊥ = cc in none
          | inr e3 ↦ elim (row_or_later double (single ∷ []) (AWord word) e3) [
            | inl d ↦ let is = marked (first_mark double_marks bytes) (AWord word) d in let is2 = is.1 in let none : ⊥ = cc in none
            | inr e4 ↦ elim (row_or_later single [] (AWord word) e4) [
              | inl s ↦ let is = marked (first_mark single_marks bytes) (AWord word) s in let is2 = is.1 in let none : ⊥ = cc in none
              | inr e5 ↦ let none : ⊥ = cc in none
            ]
          ]
        ]
      ]
    ]

pub no_number : (b : ℕ) (bs number : List ℕ) → begins_number (b ∷ bs) ≡ false → first_token (b ∷ bs) ≡ Some (ANumber number) → ⊥
unfolding first_token
no_number b bs number a e =
    let bytes : List ℕ = b ∷ bs in
    let word = word_row bytes in
    let quoted = quoted_row bytes in
    let double = double_row bytes in
    let single = single_row bytes in
    elim (row_or_later word (number_row bytes ∷ quoted ∷ double ∷ single ∷ []) (ANumber number) e) [
      | inl w ↦ let is = picked (is_ascii_alphabetic b) (AWord (b ∷ take_while is_word_byte bs)) (ANumber number) w in let none : ⊥ = cc in none
      | inr e1 ↦ elim (row_or_later (number_row bytes) (quoted ∷ double ∷ single ∷ []) (ANumber number) e1) [
        | inl n ↦ let f : None ≡ Some (ANumber number) = rw a at n in let none : ⊥ = cc in none
        | inr e2 ↦ elim (row_or_later quoted (double ∷ single ∷ []) (ANumber number) e2) [
          | inl q ↦ let is = picked (nat_eq b 39 && begins_with (λ c. nat_eq c 39) (drop (prefix_len is_plain bs) bs)) (AQuote (take_while is_plain bs)) (ANumber number) q in let none : ⊥ = cc in none
          | inr e3 ↦ elim (row_or_later double (single ∷ []) (ANumber number) e3) [
            | inl d ↦ let is = marked (first_mark double_marks bytes) (ANumber number) d in let is2 = is.1 in let none : ⊥ = cc in none
            | inr e4 ↦ elim (row_or_later single [] (ANumber number) e4) [
              | inl s ↦ let is = marked (first_mark single_marks bytes) (ANumber number) s in let is2 = is.1 in let none : ⊥ = cc in none
              | inr e5 ↦ let none : ⊥ = cc in none
            ]
          ]
        ]
      ]
    ]

-- a number doesn't begin with a letter
pub no_letter : (b : ℕ) (bs : List ℕ) → begins_number (b ∷ bs) ≡ true → is_ascii_alphabetic b ≡ false
no_letter b bs e = grind arith

-- bytes with a first one
pub first_is : (bytes : List ℕ) (b : ℕ) → slice_get bytes 0 ≡ Some b → slice_index bytes 0 ≡ b
first_is [] b e = absurd (let none : ⊥ = cc in none)
first_is (x ∷ xs) b e = cc

pub first_split : (bytes : List ℕ) (b : ℕ) → slice_get bytes 0 ≡ Some b → b ∷ drop 1 bytes ≡ bytes
first_split [] b e = absurd (let none : ⊥ = cc in none)
first_split (x ∷ xs) b e = ap (λ (y : ℕ). y ∷ xs) (let same : b ≡ x = cc in same)
