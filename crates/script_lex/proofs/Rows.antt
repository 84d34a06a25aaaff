-- Which row of the table fits, by the first byte.
use Rattle.std.proofs.Common.{◌≡◌, ◌⊎◌, inl, inr, ◌&&◌, Bool, ◌≢◌, ℕ, ◌-◌, ◌<◌, List, [], ◌∷◌, true, false, Option, Some, None, length, take, drop, get_or, refl, sym, ap, ◌∙◌, arith, true≢false, length-drop}
use Rattle.std.proofs.Math.Bool.{and-false}
use Rattle.std.specs.Prelude.{nat_eq, option_map, slice_index, slice_get}
use Rattle.std.specs.Option.{option_or}
use Rattle.std.specs.Char.{is_ascii_alphabetic, is_ascii_digit}
use Rattle.std.specs.List.{prefix_len, take_while, list_all}
use Rattle.std.proofs.lemmas.Grind.{common_steps}
use Rattle.std.proofs.lemmas.Bool.{eq-eqb, ne_eqb}
use Rattle.itpg_base.specs.declared.text_code.TextCode.{TextCode}
use Rattle.itpg_base.specs.declared.text_code.TextCode.TheVariants.{Byte, Text}
use Rattle.script_lex.specs.declared.mark.Mark.{Mark}
use Rattle.script_lex.specs.Bytes.{is_word_byte, is_plain, begins_with}
use Rattle.script_lex.specs.Marks.{first_mark, double_marks, single_marks, mark_of}
use Rattle.script_lex.specs.Lexemes.{AWord, ANumber, AQuote, AMark}
use Rattle.script_lex.specs.Table.{begins_number, first_some, first_token, fault_of}
use Rattle.script_lex.proofs.Runs.{run_whole, run_short}

-- one byte is no mark of two
pub no_double : (b : ℕ) → first_mark double_marks (b ∷ []) ≡ None
unfolding first_mark
no_double b = simp and-false

pub word_token : (bytes : List ℕ) → is_ascii_alphabetic (slice_index bytes 0) ≡ true → first_token bytes ≡ Some (AWord (slice_index bytes 0 ∷ take_while is_word_byte (drop 1 bytes)))
unfolding first_token
word_token [] e = absurd (true≢false (sym e))
word_token (b ∷ bs) e = rw e refl

pub number_token : (bytes : List ℕ) → is_ascii_alphabetic (slice_index bytes 0) ≡ false → begins_number bytes ≡ true → first_token bytes ≡ Some (ANumber (slice_index bytes 0 ∷ take_while is_ascii_digit (drop 1 bytes)))
unfolding first_token
number_token [] a e = absurd (true≢false (sym e))
number_token (b ∷ bs) a e = rw (a, e) refl

-- the byte is there, and a quote
quote_there : (xs : List ℕ) → slice_get xs 0 ≡ Some 39 → begins_with (λ c. nat_eq c 39) xs ≡ true
quote_there [] e = absurd (let none : ⊥ = cc in none)
quote_there (x ∷ xs) e = eq-eqb x 39 (let same : x ≡ 39 = cc in same)

other_there : (xs : List ℕ) (y : ℕ) → slice_get xs 0 ≡ Some y → y ≢ 39 → begins_with (λ c. nat_eq c 39) xs ≡ false
other_there [] y e ne = refl
other_there (x ∷ xs) y e ne = ne_eqb x 39 (λ same. ne (let is : y ≡ 39 = cc in is))

some_there : (xs : List ℕ) (y : ℕ) → slice_get xs 0 ≡ Some y → 0 < length xs
some_there [] y e = absurd (let none : ⊥ = cc in none)
some_there (x ∷ xs) y e = omega arith

pub none_there : (xs : List ℕ) → slice_get xs 0 ≡ None → xs ≡ []
none_there [] e = refl
none_there (x ∷ xs) e = absurd (let none : ⊥ = cc in none)

no_quoted : (bs : List ℕ) → begins_with (λ c. nat_eq c 39) (drop (prefix_len is_plain bs) bs) ≡ false → first_token (39 ∷ bs) ≡ None
unfolding first_token first_mark
no_quoted bs e = rw e refl

-- behind a quote: a run of plain bytes, and what stands behind it
module _ (bs : List ℕ) (n : ℕ) (run : n ≡ prefix_len is_plain bs) (text rest : List ℕ) (front : text ≡ take n bs) (back : rest ≡ drop n bs) where
  behind_run : rest ≡ drop (prefix_len is_plain bs) bs
  behind_run = back ∙ ap (λ k. drop k bs) run

  pub quoted_token : slice_get rest 0 ≡ Some 39 → first_token (39 ∷ bs) ≡ Some (AQuote text)
  unfolding first_token
  quoted_token e =
      let closed : begins_with (λ c. nat_eq c 39) (drop (prefix_len is_plain bs) bs) ≡ true = ap (begins_with (λ c. nat_eq c 39)) (sym behind_run) ∙ quote_there rest e in
      rw closed (ap (λ t. Some (AQuote t)) (sym (front ∙ ap (λ k. take k bs) run)))

  pub byte_fault : (y : ℕ) → slice_get rest 0 ≡ Some y → y ≢ 39 → (first_token (39 ∷ bs) ≡ None) × (fault_of (39 ∷ bs) ≡ Byte)
  byte_fault y e ne =
      let some : 0 < length rest = some_there rest y e in
      let long : length rest ≡ length bs - prefix_len is_plain bs = ap length behind_run ∙ length-drop (prefix_len is_plain bs) bs in
      let short : list_all is_plain bs ≡ false = run_short is_plain bs (omega arith) in
      (no_quoted bs (ap (begins_with (λ c. nat_eq c 39)) (sym behind_run) ∙ other_there rest y e ne), rw short refl)

  pub open_fault : slice_get rest 0 ≡ None → (first_token (39 ∷ bs) ≡ None) × (fault_of (39 ∷ bs) ≡ Text)
  open_fault e =
      let empty : rest ≡ [] = none_there rest e in
      let long : 0 ≡ length bs - prefix_len is_plain bs = sym (ap length empty) ∙ ap length behind_run ∙ length-drop (prefix_len is_plain bs) bs in
      let whole : list_all is_plain bs ≡ true = run_whole is_plain bs (omega arith) in
      (no_quoted bs (ap (begins_with (λ c. nat_eq c 39)) (sym behind_run ∙ empty)), rw whole refl)

-- by the rows of marks, where none of the others fits
pub mark_token : (bytes : List ℕ) → 0 < length bytes → is_ascii_alphabetic (slice_index bytes 0) ≡ false → begins_number bytes ≡ false → slice_index bytes 0 ≢ 39 → first_token bytes ≡ option_map AMark (mark_of bytes)
unfolding first_token
mark_token [] h a n q = absurd (omega arith)
mark_token (b ∷ bs) h a n q = let no_quote : nat_eq b 39 ≡ false = ne_eqb b 39 q in rw (a, n, no_quote) (either (first_mark double_marks (b ∷ bs)) (first_mark single_marks (b ∷ bs)))
  where
    either : (d s : Option Mark) → first_some (option_map AMark d ∷ option_map AMark s ∷ []) ≡ option_map AMark (option_or d s)
    either (Some m) s = refl
    either None (Some m) = refl
    either None None = refl

pub byte_without_quote : (bytes : List ℕ) → slice_index bytes 0 ≢ 39 → fault_of bytes ≡ Byte
byte_without_quote [] q = refl
byte_without_quote (b ∷ bs) q = let no_quote : nat_eq b 39 ≡ false = ne_eqb b 39 q in rw no_quote refl

-- bytes are their first and what stands behind it
pub first_and_rest : (bytes : List ℕ) → 0 < length bytes → get_or bytes 0 0 ∷ take (length bytes - 1) (drop 1 bytes) ≡ bytes
first_and_rest bytes h = grind (arith, common_steps)

-- there are two faults
pub one_of_two : (bytes : List ℕ) (code : TextCode) → fault_of bytes ≡ code → (code ≡ Byte) ⊎ (code ≡ Text)
one_of_two [] code is = inl (sym is)
one_of_two (b ∷ bs) code is = by_test (nat_eq b 39 && list_all is_plain bs) refl
  where
    by_test : (t : Bool) → (nat_eq b 39 && list_all is_plain bs) ≡ t → (code ≡ Byte) ⊎ (code ≡ Text)
    by_test true e = inr (sym is ∙ rw e refl)
    by_test false e = inl (sym is ∙ rw e refl)
