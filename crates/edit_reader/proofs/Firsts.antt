-- What a line is, from its tokens: it has no fault, or this is the first.
use Rattle.std.proofs.Common.{◌≡◌, ◌⊎◌, inl, inr, ℕ, ◌<◌, ◌≤◌, List, [], ◌∷◌, Bool, true, false, ◌&&◌, Option, Some, None, Result, Ok, Err, length, drop, refl, sym, ap, ◌∙◌, subst, arith, true≢false}
use Rattle.std.specs.Prelude.{nat_eq}
use Rattle.std.specs.List.{list_all}
use Rattle.std.proofs.lemmas.Bool.{cases_lt}
use Rattle.itpg_base.specs.declared.text_code.TextCode.{TextCode}
use Rattle.edit_reader.specs.declared.reading.TheConstants.{MAX_LINE}
use Rattle.script_lex.specs.declared.token.TheConstants.{MAX_TOKENS}
use Rattle.script_lex.specs.Bytes.{is_plain}
use Rattle.script_lex.specs.Table.{fault_of}
use Rattle.script_lex.specs.Lines.{Placed, behind_blanks, AreTokens}
use Rattle.script_lex.proofs.OneList.{tokens_unique, tokens_exist}
use Rattle.edit_reader.specs.Readings.{Reading, Nothing}
use Rattle.edit_reader.specs.Forms.{form_of, parts_of}
use Rattle.edit_reader.specs.Faults.{is_silent, OfTokens, HasFault, HasFarNumber, HasLongName}
use Rattle.edit_reader.specs.Lines.{ReadsAs, TakenAs}
use Rattle.edit_reader.specs.Telling.{near, short, form_told, is_byte, end_told, tokens_told, line_told}
use Rattle.edit_reader.proofs.Counting.{many_told, few_told}
use Rattle.edit_reader.proofs.Ordered.{NoneBelow, none_below_one, none_further, none_at_all, first_unique}
use Rattle.edit_reader.proofs.PartFaults.{near_or_far, short_or_long}

pub long_line : (body : List ℕ) → MAX_LINE < length body → TakenAs body (Err TextCode.Long)
long_line body long = record { there = long; first = none_below_one (HasFault body) }

-- a line that is blank or a comment has no fault but to be too long
no_tokens : (body : List ℕ) → is_silent body ≡ true → (P : List Placed → Option TextCode → Type 0) → ¬ OfTokens body P
no_tokens body silent P of = true≢false (sym silent ∙ of.0)

pub silent_line : (body : List ℕ) → length body ≤ MAX_LINE → is_silent body ≡ true → TakenAs body (Ok Nothing)
silent_line body few silent = (none, inl (silent, refl))
  where
    none : (code : TextCode) → ¬ HasFault body code
    none TextCode.Long h = absurd (omega arith)
    none TextCode.Byte h = no_tokens body silent _ h
    none TextCode.Tokens h = no_tokens body silent _ h
    none TextCode.Deep h = h
    none TextCode.Text h = no_tokens body silent _ h
    none TextCode.Number h = no_tokens body silent _ h
    none TextCode.Name h = no_tokens body silent _ h
    none TextCode.Range h = h
    none TextCode.Names h = h
    none TextCode.Terms h = h

-- tokens end at a bad byte or at a quoted text that isn't closed
byte_or_text : (bytes : List ℕ) (code : TextCode) → fault_of bytes ≡ code → (code ≡ TextCode.Byte) ⊎ (code ≡ TextCode.Text)
byte_or_text [] code is = inl (sym is)
byte_or_text (b ∷ bs) code is = by_test (nat_eq b 39 && list_all is_plain bs) refl
  where
    by_test : (t : Bool) → (nat_eq b 39 && list_all is_plain bs) ≡ t → (code ≡ TextCode.Byte) ⊎ (code ≡ TextCode.Text)
    by_test true e = inr (sym is ∙ rw e refl)
    by_test false e = inl (sym is ∙ rw e refl)

fault_at_end : (line : List ℕ) (at : ℕ) (tokens : List Placed) (code : TextCode) → AreTokens line at tokens (Some code) → (code ≡ TextCode.Byte) ⊎ (code ≡ TextCode.Text)
fault_at_end line at [] code fault = byte_or_text (drop (behind_blanks line at) line) code fault.why
fault_at_end line at (t ∷ ts) code are = fault_at_end line t.to ts code are.1

byte_end : (end : Option TextCode) → is_byte end ≡ true → end ≡ Some TextCode.Byte
byte_end (Some TextCode.Byte) e = refl
byte_end _ e = absurd (let none : ⊥ = cc in none)

module _ (body : List ℕ) (few : length body ≤ MAX_LINE) (loud : is_silent body ≡ false) (tokens : List Placed) (end : Option TextCode) (are : AreTokens body 0 tokens end) where
  -- what holds of some tokens of the line holds of these
  of_these : (P : List Placed → Option TextCode → Type 0) → OfTokens body P → P tokens end
  of_these P (_, (others, (other, (these, holds)))) =
      let same = tokens_unique body 0 others tokens other end these are in
      subst (λ (e : Option TextCode). P tokens e) same.1 (subst (λ (ts : List Placed). P ts other) same.0 holds)

  -- and what holds of these holds of the tokens of the line
  told_of : (P : List Placed → Option TextCode → Type 0) → P tokens end → OfTokens body P
  told_of P holds = (loud, (tokens, (end, (are, holds))))

  none_to_byte : NoneBelow (HasFault body) 2
  none_to_byte = none_further (HasFault body) TextCode.Long (none_below_one (HasFault body)) (λ h. absurd (omega arith))

  byte_line : end ≡ Some TextCode.Byte → TakenAs body (Err TextCode.Byte)
  byte_line e = record { there = told_of _ e; first = none_to_byte }

  module _ (fine : is_byte end ≡ false) where
    none_to_tokens : NoneBelow (HasFault body) 3
    none_to_tokens = none_further (HasFault body) TextCode.Byte none_to_byte (λ h. let e : end ≡ Some TextCode.Byte = of_these (λ ts x. x ≡ Some TextCode.Byte) h in absurd (true≢false (sym (ap is_byte e) ∙ fine)))

    many_line : MAX_TOKENS < length tokens → TakenAs body (Err TextCode.Tokens)
    many_line many = record { there = told_of (λ ts x. MAX_TOKENS < length ts) many; first = none_to_tokens }

    module _ (some : length tokens ≤ MAX_TOKENS) where
      none_to_text : NoneBelow (HasFault body) 5
      none_to_text =
          none_further (HasFault body) TextCode.Deep (none_further (HasFault body) TextCode.Tokens none_to_tokens (λ h. let many : MAX_TOKENS < length tokens = of_these (λ ts x. MAX_TOKENS < length ts) h in absurd (omega arith))) (λ h. h)

      open_line : end ≡ Some TextCode.Text → TakenAs body (Err TextCode.Text)
      open_line e = record { there = told_of (λ ts x. (x ≡ Some TextCode.Text) ⊎ (form_of body ts ≡ None)) (inl e); first = none_to_text }

      no_form_line : form_of body tokens ≡ None → TakenAs body (Err TextCode.Text)
      no_form_line e = record { there = told_of (λ ts x. (x ≡ Some TextCode.Text) ⊎ (form_of body ts ≡ None)) (inr e); first = none_to_text }

      module _ (ended : end ≡ None) (reading : Reading) (is_form : form_of body tokens ≡ Some reading) where
        no_text_fault : ¬ HasFault body TextCode.Text
        no_text_fault h = elim (of_these (λ ts x. (x ≡ Some TextCode.Text) ⊎ (form_of body ts ≡ None)) h) [
          | inl e ↦ let none : ⊥ = cc in none
          | inr e ↦ let none : ⊥ = cc in none
        ]

        none_to_number : NoneBelow (HasFault body) 6
        none_to_number = none_further (HasFault body) TextCode.Text none_to_text no_text_fault

        far_line : HasFarNumber (parts_of tokens) → TakenAs body (Err TextCode.Number)
        far_line far = record { there = told_of (λ ts x. HasFarNumber (parts_of ts)) far; first = none_to_number }

        none_to_name : ¬ HasFarNumber (parts_of tokens) → NoneBelow (HasFault body) 7
        none_to_name near = none_further (HasFault body) TextCode.Number none_to_number (λ h. near (of_these (λ ts x. HasFarNumber (parts_of ts)) h))

        long_name_line : ¬ HasFarNumber (parts_of tokens) → HasLongName (parts_of tokens) → TakenAs body (Err TextCode.Name)
        long_name_line near long = record { there = told_of (λ ts x. HasLongName (parts_of ts)) long; first = none_to_name near }

        good_line : ¬ HasFarNumber (parts_of tokens) → ¬ HasLongName (parts_of tokens) → TakenAs body (Ok reading)
        good_line near short = (none_at_all (HasFault body) none, inr (told_of (λ ts x. form_of body ts ≡ Some reading) is_form))
          where
            none : NoneBelow (HasFault body) 11
            none =
                none_further (HasFault body) TextCode.Terms (none_further (HasFault body) TextCode.Names (none_further (HasFault body) TextCode.Range (none_further (HasFault body) TextCode.Name (none_to_name near) (λ h. short (of_these (λ ts x. HasLongName (parts_of ts)) h))) (λ h. h)) (λ h. h)) (λ h. h)

        form_line : TakenAs body (near (parts_of tokens) (short (parts_of tokens) (Ok reading)))
        form_line = elim (near_or_far (parts_of tokens) (short (parts_of tokens) (Ok reading))) [
          | inl far ↦ subst (TakenAs body) (sym far.1) (far_line far.0)
          | inr near ↦ elim (short_or_long (parts_of tokens) (Ok reading)) [
            | inl long ↦ subst (TakenAs body) (sym (near.1 ∙ long.1)) (long_name_line near.0 long.0)
            | inr short ↦ subst (TakenAs body) (sym (near.1 ∙ short.1)) (good_line near.0 short.0)
          ]
        ]

      ended_line : (x : Option TextCode) → end ≡ x → TakenAs body (end_told x (form_told (form_of body tokens) (parts_of tokens)))
      ended_line (Some code) e = elim (fault_at_end body 0 tokens code (subst (AreTokens body 0 tokens) e are)) [
        | inl byte ↦ absurd (true≢false (sym (ap is_byte (e ∙ ap Some byte)) ∙ fine))
        | inr text ↦ subst (λ (c : TextCode). TakenAs body (Err c)) (sym text) (open_line (e ∙ ap Some text))
      ]
      ended_line None e = by_form (form_of body tokens) refl
        where
          by_form : (f : Option Reading) → form_of body tokens ≡ f → TakenAs body (form_told f (parts_of tokens))
          by_form None is = no_form_line is
          by_form (Some reading) is = form_line e reading is

  pub told_line : TakenAs body (line_told body tokens end)
  told_line = by_byte (is_byte end) refl
    where
      by_byte : (t : Bool) → is_byte end ≡ t → TakenAs body (tokens_told end (length tokens) (form_told (form_of body tokens) (parts_of tokens)))
      by_byte true e = let byte : tokens_told end (length tokens) (form_told (form_of body tokens) (parts_of tokens)) ≡ Err TextCode.Byte = rw e refl in subst (TakenAs body) (sym byte) (byte_line (byte_end end e))
      by_byte false e = elim (cases_lt MAX_TOKENS (length tokens)) [
        | inl many ↦ subst (TakenAs body) (sym (many_told end (length tokens) (form_told (form_of body tokens) (parts_of tokens)) e many)) (many_line e many)
        | inr few ↦ subst (TakenAs body) (sym (few_told end (length tokens) (form_told (form_of body tokens) (parts_of tokens)) e few)) (ended_line e few end refl)
      ]

-- a line is one thing
pub taken_once : (body : List ℕ) (r s : Result Reading TextCode) → TakenAs body r → TakenAs body s → r ≡ s
taken_once body (Ok a) (Ok b) x y = ap Ok (by_reading x.1 y.1)
  where
    by_reading : ReadsAs body a → ReadsAs body b → a ≡ b
    by_reading (inl s) (inl t) = s.1 ∙ sym t.1
    by_reading (inl s) (inr t) = absurd (true≢false (sym s.0 ∙ t.0))
    by_reading (inr s) (inl t) = absurd (true≢false (sym t.0 ∙ s.0))
    by_reading (inr (_, (us, (e, (are, is))))) (inr (_, (vs, (f, (these, so))))) =
        let same = (tokens_unique body 0 us vs e f are these).0 in
        let one : Some a ≡ Some b = sym is ∙ ap (form_of body) same ∙ so in cc
taken_once body (Ok a) (Err d) x y = absurd (x.0 d y.there)
taken_once body (Err c) (Ok b) x y = absurd (y.0 c x.there)
taken_once body (Err c) (Err d) x y = ap Err (first_unique (HasFault body) c d x y)

-- and it is something
pub taken_somehow : (body : List ℕ) → (r : Result Reading TextCode) × TakenAs body r
taken_somehow body = elim (cases_lt MAX_LINE (length body)) [
  | inl long ↦ (Err TextCode.Long, long_line body long)
  | inr few ↦ by_silence few (is_silent body) refl
]
  where
    by_silence : length body ≤ MAX_LINE → (t : Bool) → is_silent body ≡ t → (r : Result Reading TextCode) × TakenAs body r
    by_silence few true e = (Ok Nothing, silent_line body few e)
    by_silence few false e = let t = tokens_exist body 0 in (line_told body t.0 t.1.0, told_line body few e t.0 t.1.0 t.1.1)
