-- The order of the faults.
use Rattle.std.proofs.Common.{◌≡◌, inl, inr, ℕ, ◌+◌, ◌<◌, subst, arith}
use Rattle.std.proofs.lemmas.Bool.{cases_lt}
use Rattle.itpg_base.specs.declared.text_code.TextCode.{TextCode}
use Rattle.itpg_base.specs.TextCodes.{text_place}
use Rattle.itpg_base.proofs.TextOrder.{one_place, place_within}
use Rattle.edit_reader.specs.Lines.{IsFirst}

-- no fault has a place below this one
abbrev pub NoneBelow : (TextCode → Type 0) → ℕ → Type 0
NoneBelow Has n = (code : TextCode) → text_place code < n → ¬ Has code

module _ (Has : TextCode → Type 0) where
  pub none_below_one : NoneBelow Has 1
  none_below_one code h there = let p = place_within code in absurd (omega (arith, p.least))

  -- one place further
  pub none_further : (code : TextCode) → NoneBelow Has (text_place code) → ¬ Has code → NoneBelow Has (text_place code + 1)
  none_further code below none other h there = elim (cases_lt (text_place other) (text_place code)) [
    | inl before ↦ below other before there
    | inr not ↦ none (subst Has (one_place other code (omega arith)) there)
  ]

  pub none_at_all : NoneBelow Has 11 → (code : TextCode) → ¬ Has code
  none_at_all below code = let p = place_within code in below code (omega (arith, p.most))

  -- two first faults are one
  pub first_unique : (a b : TextCode) → IsFirst Has a → IsFirst Has b → a ≡ b
  first_unique a b x y = elim (cases_lt (text_place a) (text_place b)) [
    | inl before ↦ absurd (y.first a before x.there)
    | inr not ↦ elim (cases_lt (text_place b) (text_place a)) [
      | inl before ↦ absurd (x.first b before y.there)
      | inr neither ↦ one_place a b (omega arith)
    ]
  ]
