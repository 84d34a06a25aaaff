-- The faults of the parts of a form.
use Rattle.std.proofs.Common.{◌≡◌, ◌⊎◌, inl, inr, true≢false, ℕ, pos, neg_ℤ, ◌<◌, ◌≤◌, List, [], ◌∷◌, Bool, true, false, Err, length, refl, sym, ap, arith, ℤ}
use Rattle.std.specs.Prelude.{nat_eq, nat_le, slice_index, if◌then◌else◌}
use Rattle.std.specs.Str.Parse.{digits_value}
use Rattle.std.proofs.lemmas.Bool.{leb-true, leb-false, le-leb, lt-leb}
use Rattle.std.proofs.lemmas.Int.{ints}
use Rattle.itpg_base.specs.Spans.{IsMoment}
use Rattle.itpg_base.specs.Words.{Word}
use Rattle.itpg_base.specs.declared.text_code.TextCode.{TextCode}
use Rattle.itpg_base.specs.declared.name.TheConstants.{MAX_NAME}
use Rattle.script_lex.specs.declared.numbers.TheConstants.{MAX_NUMBER}
use Rattle.script_lex.specs.Lexemes.{Lexeme, AWord, ANumber, AQuote, AMark}
use Rattle.script_lex.specs.Numbers.{digits_of, number_value}
use Rattle.edit_reader.specs.Faults.{HasFarNumber, HasLongName}
use Rattle.edit_reader.specs.Steps.{Told, is_near, moment_then, name_then}
use Rattle.edit_reader.specs.Taken.{Writes, IsFar, Names, IsLong}
use Rattle.edit_reader.specs.Telling.{near, short}

-- a number is a moment where its digits write no more than the greatest number, and only there
small_moment : (below_zero : Bool) (n : ℕ) → n ≤ MAX_NUMBER → IsMoment (if below_zero then neg_ℤ (pos n) else pos n)
small_moment true n small = record { least = omega (arith, ints); greatest = omega (arith, ints) }
small_moment false n small = record { least = omega (arith, ints); greatest = omega (arith, ints) }

great_moment : (below_zero : Bool) (n : ℕ) → MAX_NUMBER < n → ¬ IsMoment (if below_zero then neg_ℤ (pos n) else pos n)
great_moment true n great m = absurd (omega (arith, ints, m.least))
great_moment false n great m = absurd (omega (arith, ints, m.greatest))

pub near_moment : (number : List ℕ) → is_near number ≡ true → IsMoment (number_value number)
near_moment number e = small_moment (nat_eq (slice_index number 0) 45) (digits_value 10 (digits_of number)) (leb-true _ _ e)

pub far_moment : (number : List ℕ) → is_near number ≡ false → ¬ IsMoment (number_value number)
far_moment number e = great_moment (nat_eq (slice_index number 0) 45) (digits_value 10 (digits_of number)) (leb-false _ _ e)

-- how reading goes on with a number, and with a text that is to be a name
pub at_moment : (number : List ℕ) {value : ℤ} → Writes number value → (go_on : ℤ → Told) → moment_then number go_on ≡ go_on value
at_moment number {value = value} is go_on = by_test (is_near number) refl
  where
    by_test : (t : Bool) → is_near number ≡ t → moment_then number go_on ≡ go_on value
    by_test true e = rw e (ap go_on (sym is.1))
    by_test false e = absurd (far_moment number e is.0)

pub at_none : (number : List ℕ) {code : TextCode} → IsFar number code → (go_on : ℤ → Told) → moment_then number go_on ≡ Err code
at_none number {code = code} is go_on = by_test (is_near number) refl
  where
    by_test : (t : Bool) → is_near number ≡ t → moment_then number go_on ≡ Err code
    by_test true e = absurd (is.1 (near_moment number e))
    by_test false e = rw e (ap Err (sym is.0))

pub named : {text name : Word} → Names text name → (go_on : Word → Told) → name_then text go_on ≡ go_on name
named {text = text} is go_on = rw (le-leb (length text) MAX_NAME is.0) (ap go_on (sym is.1))

pub overlong : (text : Word) {code : TextCode} → IsLong text code → (go_on : Word → Told) → name_then text go_on ≡ Err code
overlong text is go_on = rw (lt-leb (length text) MAX_NAME is.1) (ap Err (sym is.0))

-- a name was made of the text, so that it isn't too long
pub name_of : {text name : Word} → (MAX_NAME < length text → true ≡ false) → name ≡ text → Names text name
name_of {text = text} {name = name} long same = by_test (nat_le (length text) MAX_NAME) refl
  where
    by_test : (t : Bool) → nat_le (length text) MAX_NAME ≡ t → Names text name
    by_test true e = (leb-true _ _ e, same)
    by_test false e = absurd (true≢false (long (leb-false _ _ e)))

-- some number is too far, or none is
pub near_or_far : (parts : List Lexeme) (go_on : Told) → (HasFarNumber parts × (near parts go_on ≡ Err TextCode.Number)) ⊎ ((¬ HasFarNumber parts) × (near parts go_on ≡ go_on))
near_or_far [] go_on = inr (λ none. none, refl)
near_or_far (AWord word ∷ rest) go_on = near_or_far rest go_on
near_or_far (AQuote text ∷ rest) go_on = near_or_far rest go_on
near_or_far (AMark mark ∷ rest) go_on = near_or_far rest go_on
near_or_far (ANumber number ∷ rest) go_on = by_test (is_near number) refl (near_or_far rest go_on)
  where
    by_test : (t : Bool) → is_near number ≡ t → (HasFarNumber rest × (near rest go_on ≡ Err TextCode.Number)) ⊎ ((¬ HasFarNumber rest) × (near rest go_on ≡ go_on)) → (HasFarNumber (ANumber number ∷ rest) × (near (ANumber number ∷ rest) go_on ≡ Err TextCode.Number)) ⊎ ((¬ HasFarNumber (ANumber number ∷ rest)) × (near (ANumber number ∷ rest) go_on ≡ go_on))
    by_test true e (inl far) = inl (inr far.0, rw e far.1)
    by_test true e (inr none) = inr (λ far. elim far [ inl this ↦ this (near_moment number e) | inr other ↦ none.0 other ], rw e none.1)
    by_test false e rest = inl (inl (far_moment number e), rw e refl)

-- some name is too long, or none is
abbrev Lengths : List Lexeme → Told → Type 0
Lengths parts go_on = (HasLongName parts × (short parts go_on ≡ Err TextCode.Name)) ⊎ ((¬ HasLongName parts) × (short parts go_on ≡ go_on))

pub short_or_long : (parts : List Lexeme) (go_on : Told) → Lengths parts go_on
short_or_long [] go_on = inr (λ none. none, refl)
short_or_long (AMark mark ∷ rest) go_on = short_or_long rest go_on
short_or_long (ANumber number ∷ rest) go_on = short_or_long rest go_on
short_or_long (AWord word ∷ rest) go_on = by_test (nat_le (length word) MAX_NAME) refl (short_or_long rest go_on)
  where
    by_test : (t : Bool) → nat_le (length word) MAX_NAME ≡ t → Lengths rest go_on → Lengths (AWord word ∷ rest) go_on
    by_test true e (inl long) = inl (inr long.0, rw e long.1)
    by_test true e (inr none) = let fits = leb-true _ _ e in inr (λ long. elim long [ inl this ↦ absurd (omega arith) | inr other ↦ none.0 other ], rw e none.1)
    by_test false e rest = inl (inl (leb-false _ _ e), rw e refl)
short_or_long (AQuote text ∷ rest) go_on = by_test (nat_le (length text) MAX_NAME) refl (short_or_long rest go_on)
  where
    by_test : (t : Bool) → nat_le (length text) MAX_NAME ≡ t → Lengths rest go_on → Lengths (AQuote text ∷ rest) go_on
    by_test true e (inl long) = inl (inr long.0, rw e long.1)
    by_test true e (inr none) = let fits = leb-true _ _ e in inr (λ long. elim long [ inl this ↦ absurd (omega arith) | inr other ↦ none.0 other ], rw e none.1)
    by_test false e rest = inl (inl (leb-false _ _ e), rw e refl)
