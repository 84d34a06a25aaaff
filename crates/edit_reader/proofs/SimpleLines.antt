-- Lines of blanks and word bytes alone: with each of these a token begins, so their tokens end with the line.
use Rattle.std.proofs.Common.{◌≡◌, ◌⊎◌, inl, inr, ℕ, suc, ◌+◌, ◌<◌, ◌≤◌, List, [], ◌∷◌, Bool, true, false, Option, Some, None, length, drop, get_or, refl, sym, ap, ◌∙◌, subst, arith, drop-cons, length-drop}
use Rattle.std.specs.Prelude.{option_map}
use Rattle.std.specs.Char.{is_ascii_alphabetic}
use Rattle.std.specs.List.{prefix_len, list_all}
use Rattle.std.proofs.lemmas.Bool.Decides.{nat_tests}
use Rattle.std.proofs.lemmas.List.{get_or-drop}
use Rattle.std.proofs.lemmas.List.Sums.{prefix_len_passes, prefix_len_stops}
use Rattle.itpg_base.specs.declared.text_code.TextCode.{TextCode}
use Rattle.script_lex.specs.Bytes.{is_blank, is_word_byte}
use Rattle.script_lex.specs.Lexemes.{AMark}
use Rattle.script_lex.specs.Marks.{mark_of, first_mark}
use Rattle.script_lex.specs.Table.{first_token, begins_number}
use Rattle.script_lex.specs.Lines.{Placed, AreTokens, IsLineFault, behind_blanks}
use Rattle.script_lex.proofs.Rows.{word_token, number_token, mark_token}
use Rattle.script_lex.proofs.Runs.{whole_run}
use Rattle.script_lex.proofs.Places.{token_inside}
use Rattle.edit_reader.specs.Simple.{is_simple_byte}

some_none : {X : Type 0} {x : X} {o : Option X} → o ≡ Some x → o ≡ None → ⊥
some_none e f = cc

either : (t : Bool) → (t ≡ true) ⊎ (t ≡ false)
either true = inl refl
either false = inr refl

-- a word byte that is neither a letter nor a digit is `_`
is_line : (b : ℕ) (bs : List ℕ) → is_word_byte b ≡ true → is_ascii_alphabetic b ≡ false → begins_number (b ∷ bs) ≡ false → b ≡ 95
is_line b bs word letter number = grind (arith, nat_tests)

line_mark : (bs : List ℕ) → option_map AMark (mark_of (95 ∷ bs)) ≡ None → ⊥
unfolding first_mark
line_mark bs e = some_none refl e

-- a token begins with a word byte
word_begins : (b : ℕ) (bs : List ℕ) → is_word_byte b ≡ true → first_token (b ∷ bs) ≡ None → ⊥
word_begins b bs word none = elim (either (is_ascii_alphabetic b)) [
  | inl letter ↦ some_none (word_token (b ∷ bs) letter) none
  | inr other ↦ elim (either (begins_number (b ∷ bs))) [
    | inl number ↦ some_none (number_token (b ∷ bs) other number) none
    | inr else ↦
        let is : b ≡ 95 = is_line b bs word other else in
        let mark = mark_token (b ∷ bs) (omega arith) other else (λ quote. let never : ⊥ = omega (arith, is, quote) in never) in
        line_mark bs (subst (λ (x : ℕ). option_map AMark (mark_of (x ∷ bs)) ≡ None) is (sym mark ∙ none))
  ]
]

module _ (line : List ℕ) (simple : list_all is_simple_byte line ≡ true) where
  -- each byte is simple
  byte_simple : (k : ℕ) → k < length line → is_simple_byte (get_or line k 0) ≡ true
  byte_simple k lt = prefix_len_passes is_simple_byte line k 0 (let whole = whole_run is_simple_byte line simple in omega (arith, whole, lt))

  -- so no byte is a fault
  no_fault : (at : ℕ) (code : TextCode) → IsLineFault line at code → ⊥
  no_fault at code fault =
      let k = behind_blanks line at in
      let long = length-drop at line in
      let short : prefix_len is_blank (drop at line) < length (drop at line) = (let some = fault.some in omega (arith, some, long)) in
      let dark : is_blank (get_or line k 0) ≡ false = ap is_blank (sym (get_or-drop at line (prefix_len is_blank (drop at line)) 0)) ∙ prefix_len_stops is_blank (drop at line) 0 short in
      let word : is_word_byte (get_or line k 0) ≡ true = rw dark at (byte_simple k fault.some) in
      word_begins (get_or line k 0) (drop (suc k) line) word (ap first_token (sym (drop-cons line k 0 fault.some)) ∙ fault.none)

  pub ends_well : (at : ℕ) (tokens : List Placed) (end : Option TextCode) → AreTokens line at tokens end → end ≡ None
  ends_well at [] None are = refl
  ends_well at [] (Some code) are = absurd (no_fault at code are)
  ends_well at (t ∷ ts) end are = ends_well t.to ts end are.1

-- each token takes a byte
pub tokens_few : (line : List ℕ) (at : ℕ) (tokens : List Placed) (end : Option TextCode) → at ≤ length line → AreTokens line at tokens end → at + length tokens ≤ length line
tokens_few line at [] end le are = omega (arith, le)
tokens_few line at (t ∷ ts) end le are =
    let inside = token_inside line t.from t.what (are.0).what in
    let from = (are.0).from in
    let to = (are.0).to in
    let some = inside.some in
    let fits = inside.fits in
    let rest = tokens_few line t.to ts end (omega (arith, to, fits)) are.1 in
    omega (arith, from, to, some, rest)
