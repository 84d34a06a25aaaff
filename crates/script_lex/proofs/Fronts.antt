-- A token is written at the front of the bytes that it is read from.
use Rattle.std.proofs.Common.{◌≡◌, ℕ, ◌<◌, List, [], ◌∷◌, ◌++◌, Bool, true, false, ◌&&◌, Option, Some, None, ◌⊎◌, inl, inr, length, take, drop, refl, sym, ap, ◌∙◌, subst, arith, take-append-drop, append_assoc, true≢false, lit<}
use Rattle.std.proofs.lemmas.Option.{same_Some}
use Rattle.std.specs.Prelude.{nat_eq, option_map, find}
use Rattle.std.specs.Char.{is_ascii_alphabetic, is_ascii_digit}
use Rattle.std.specs.Cmp.Lexicographic.{bytes_decides}
use Rattle.std.specs.List.{prefix_len, take_while, list_all, starts_with}
use Rattle.std.proofs.lemmas.Bool.{eqb-true}
use Rattle.script_lex.specs.declared.mark.Mark.{Mark}
use Rattle.script_lex.specs.declared.mark.Mark.TheVariants.{DashSlash}
use Rattle.script_lex.specs.Bytes.{is_word_byte, is_plain, begins_with}
use Rattle.script_lex.specs.Marks.{mark_text, first_mark, double_marks, single_marks}
use Rattle.script_lex.specs.Lexemes.{Lexeme, AWord, ANumber, AQuote, AMark, written}
use Rattle.script_lex.specs.Numbers.{IsNumber, HasNumber}
use Rattle.script_lex.specs.Table.{word_row, number_row, begins_number, quoted_row, double_row, single_row, first_some, first_token}
use Rattle.script_lex.proofs.Runs.{run_passes, run_some}

-- the bytes begin with this part, which has at least one
pub record IsFront (part bytes : List ℕ) : Type 0 where
  pub rest : List ℕ
  pub split : part ++ rest ≡ bytes
  pub some : 0 < length part

-- what is read is written at the front, and a number token is a number
pub record IsRead (bytes : List ℕ) (t : Lexeme) : Type 0 where
  pub front : IsFront (written t) bytes
  pub number : HasNumber t

word_read : (bytes : List ℕ) (t : Lexeme) → word_row bytes ≡ Some t → IsRead bytes t
word_read [] t e = absurd (let none : ⊥ = cc in none)
word_read (b ∷ bs) t e = by_test (is_ascii_alphabetic b) refl
  where
    run : List ℕ
    run = take_while is_word_byte bs

    whole : IsRead (b ∷ bs) (AWord (b ∷ take_while is_word_byte bs))
    whole = record {
      front = record {
        rest = drop (prefix_len is_word_byte bs) bs;
        split = ap (λ r. b ∷ r) (take-append-drop (prefix_len is_word_byte bs) bs);
        some = omega arith;
      };
      number = tt;
    }

    by_test : (v : Bool) → is_ascii_alphabetic b ≡ v → IsRead (b ∷ bs) t
    by_test true a = subst (IsRead (b ∷ bs)) (same_Some (AWord (b ∷ take_while is_word_byte bs)) t (rw a at e)) whole
    by_test false a = absurd (let f : None ≡ Some t = rw a at e in let none : ⊥ = cc in none)

number_is : (b : ℕ) (bs : List ℕ) → begins_number (b ∷ bs) ≡ true → IsNumber (b ∷ take_while is_ascii_digit bs)
number_is b bs e = by_test (is_ascii_digit b) (nat_eq b 45) refl refl
  where
    by_test : (d m : Bool) → is_ascii_digit b ≡ d → nat_eq b 45 ≡ m → IsNumber (b ∷ take_while is_ascii_digit bs)
    by_test true true d m = absurd (let h : is_ascii_digit 45 ≡ true = subst (λ n. is_ascii_digit n ≡ true) (eqb-true b 45 m) d in true≢false (sym h))
    by_test true false d m = record { some = rw m (omega arith); digits = rw m (ap (λ t. t && list_all is_ascii_digit (take_while is_ascii_digit bs)) d ∙ run_passes is_ascii_digit bs) }
    by_test false true d m = let f = rw (d, m) at e in record { some = rw m (run_some is_ascii_digit bs f); digits = rw m (run_passes is_ascii_digit bs) }
    by_test false false d m = absurd (let f : false ≡ true = rw (d, m) at e in let none : ⊥ = cc in none)

number_read : (bytes : List ℕ) (t : Lexeme) → number_row bytes ≡ Some t → IsRead bytes t
number_read [] t e = absurd (let none : ⊥ = cc in none)
number_read (b ∷ bs) t e = by_test (begins_number (b ∷ bs)) refl
  where
    whole : begins_number (b ∷ bs) ≡ true → IsRead (b ∷ bs) (ANumber (b ∷ take_while is_ascii_digit bs))
    whole a = record {
      front = record {
        rest = drop (prefix_len is_ascii_digit bs) bs;
        split = ap (λ r. b ∷ r) (take-append-drop (prefix_len is_ascii_digit bs) bs);
        some = omega arith;
      };
      number = number_is b bs a;
    }

    by_test : (v : Bool) → begins_number (b ∷ bs) ≡ v → IsRead (b ∷ bs) t
    by_test true a = subst (IsRead (b ∷ bs)) (same_Some (ANumber (b ∷ take_while is_ascii_digit bs)) t (rw a at e)) (whole a)
    by_test false a = absurd (let f : None ≡ Some t = rw a at e in let none : ⊥ = cc in none)

-- what stands behind the run begins with the byte
behind : (c : ℕ) (xs : List ℕ) → begins_with (λ b. nat_eq b c) xs ≡ true → (rest : List ℕ) × (c ∷ rest ≡ xs)
behind c [] e = absurd (let none : ⊥ = cc in none)
behind c (x ∷ xs) e = (xs, ap (λ b. b ∷ xs) (sym (eqb-true x c e)))

quoted_read : (bytes : List ℕ) (t : Lexeme) → quoted_row bytes ≡ Some t → IsRead bytes t
quoted_read [] t e = absurd (let none : ⊥ = cc in none)
quoted_read (b ∷ bs) t e = by_test (nat_eq b 39) (begins_with (λ c. nat_eq c 39) (drop (prefix_len is_plain bs) bs)) refl refl
  where
    whole : nat_eq b 39 ≡ true → begins_with (λ c. nat_eq c 39) (drop (prefix_len is_plain bs) bs) ≡ true → IsRead (b ∷ bs) (AQuote (take_while is_plain bs))
    whole q a =
        let text = take_while is_plain bs in
        let rest = behind 39 (drop (prefix_len is_plain bs) bs) a in
        record {
          front = record {
            rest = rest.0;
            split = ap (λ xs. 39 ∷ xs) (append_assoc text (39 ∷ []) rest.0 ∙ ap (λ xs. text ++ xs) rest.1 ∙ take-append-drop (prefix_len is_plain bs) bs) ∙ ap (λ c. c ∷ bs) (sym (eqb-true b 39 q));
            some = omega arith;
          };
          number = tt;
        }

    by_test : (v w : Bool) → nat_eq b 39 ≡ v → begins_with (λ c. nat_eq c 39) (drop (prefix_len is_plain bs) bs) ≡ w → IsRead (b ∷ bs) t
    by_test true true q a = subst (IsRead (b ∷ bs)) (same_Some (AQuote (take_while is_plain bs)) t (rw (q, a) at e)) (whole q a)
    by_test true false q a = absurd (let f : None ≡ Some t = rw (q, a) at e in let none : ⊥ = cc in none)
    by_test false w q a = absurd (let f : None ≡ Some t = rw q at e in let none : ⊥ = cc in none)

mark_some : (m : Mark) → 0 < length (mark_text m)
mark_some DashSlash = lit< tt
mark_some m = lit< tt

mark_front : (marks : List Mark) (bytes : List ℕ) (m : Mark) → find (λ k. starts_with nat_eq bytes (mark_text k)) marks ≡ Some m → IsFront (mark_text m) bytes
mark_front [] bytes m e = absurd (let none : ⊥ = cc in none)
mark_front (k ∷ ks) bytes m e = by_test (starts_with nat_eq bytes (mark_text k)) refl (mark_front ks bytes m)
  where
    here : starts_with nat_eq bytes (mark_text k) ≡ true → IsFront (mark_text k) bytes
    here a = record {
      rest = drop (length (mark_text k)) bytes;
      split = ap (λ xs. xs ++ drop (length (mark_text k)) bytes) ((bytes_decides (mark_text k) (take (length (mark_text k)) bytes)).0 a) ∙ take-append-drop (length (mark_text k)) bytes;
      some = mark_some k;
    }

    by_test : (v : Bool) → starts_with nat_eq bytes (mark_text k) ≡ v → (find (λ j. starts_with nat_eq bytes (mark_text j)) ks ≡ Some m → IsFront (mark_text m) bytes) → IsFront (mark_text m) bytes
    by_test true a next = subst (λ j. IsFront (mark_text j) bytes) (same_Some k m (rw a at e)) (here a)
    by_test false a next = next (rw a at e)

mark_read : (marks : List Mark) (bytes : List ℕ) (t : Lexeme) → option_map AMark (first_mark marks bytes) ≡ Some t → IsRead bytes t
unfolding first_mark
mark_read marks bytes t e = by_mark (find (λ k. starts_with nat_eq bytes (mark_text k)) marks) refl
  where
    by_mark : (o : Option Mark) → find (λ k. starts_with nat_eq bytes (mark_text k)) marks ≡ o → IsRead bytes t
    by_mark None f = absurd (let g : None ≡ Some t = sym (ap (option_map AMark) f) ∙ e in let none : ⊥ = cc in none)
    by_mark (Some m) f = subst (IsRead bytes) (same_Some (AMark m) t (sym (ap (option_map AMark) f) ∙ e)) (record { front = mark_front marks bytes m f; number = tt })

pub row_or_later : (r : Option Lexeme) (rows : List (Option Lexeme)) (t : Lexeme) → first_some (r ∷ rows) ≡ Some t → (r ≡ Some t) ⊎ (first_some rows ≡ Some t)
row_or_later None rows t e = inr e
row_or_later (Some s) rows t e = inl e

-- whatever the row, the token is written at the front of the bytes
pub token_read : (bytes : List ℕ) (t : Lexeme) → first_token bytes ≡ Some t → IsRead bytes t
unfolding first_token
token_read bytes t e =
    let word = word_row bytes in
    let number = number_row bytes in
    let quoted = quoted_row bytes in
    let double = double_row bytes in
    let single = single_row bytes in
    elim (row_or_later word (number ∷ quoted ∷ double ∷ single ∷ []) t e) [
      | inl w ↦ word_read bytes t w
      | inr e1 ↦ elim (row_or_later number (quoted ∷ double ∷ single ∷ []) t e1) [
        | inl n ↦ number_read bytes t n
        | inr e2 ↦ elim (row_or_later quoted (double ∷ single ∷ []) t e2) [
          | inl q ↦ quoted_read bytes t q
          | inr e3 ↦ elim (row_or_later double (single ∷ []) t e3) [
            | inl d ↦ mark_read double_marks bytes t d
            | inr e4 ↦ elim (row_or_later single [] t e4) [
              | inl s ↦ mark_read single_marks bytes t s
              | inr e5 ↦ absurd (let none : ⊥ = cc in none)
            ]
          ]
        ]
      ]
    ]
