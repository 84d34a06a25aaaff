-- The order of the faults of a text.
use Rattle.std.proofs.Common.{◌≡◌, ℕ, ◌≤◌, refl, sym, ap, ◌∙◌, arith, get_or, [], ◌∷◌}
use Rattle.itpg_base.specs.declared.text_code.TextCode.{TextCode}
use Rattle.itpg_base.specs.declared.text_code.TextCode.TheVariants.{Long, Byte, Tokens, Deep, Text, Number, Name, Range, Names, Terms}
use Rattle.itpg_base.specs.TextCodes.{text_place}

-- the codes by their places
code_at : ℕ → TextCode
code_at n = get_or (Long ∷ Long ∷ Byte ∷ Tokens ∷ Deep ∷ Text ∷ Number ∷ Name ∷ Range ∷ Names ∷ Terms ∷ []) n Long

code_again : (c : TextCode) → code_at (text_place c) ≡ c
unfolding code_at
code_again Long = refl
code_again Byte = refl
code_again Tokens = refl
code_again Deep = refl
code_again Text = refl
code_again Number = refl
code_again Name = refl
code_again Range = refl
code_again Names = refl
code_again Terms = refl

-- each code has a place of its own
pub one_place : (a b : TextCode) → text_place a ≡ text_place b → a ≡ b
one_place a b e = sym (code_again a) ∙ ap code_at e ∙ code_again b

pub record IsPlace (n : ℕ) : Type 0 where
  pub least : 1 ≤ n
  pub most : n ≤ 10

pub place_within : (c : TextCode) → IsPlace (text_place c)
place_within Long = record { least = omega arith; most = omega arith }
place_within Byte = record { least = omega arith; most = omega arith }
place_within Tokens = record { least = omega arith; most = omega arith }
place_within Deep = record { least = omega arith; most = omega arith }
place_within Text = record { least = omega arith; most = omega arith }
place_within Number = record { least = omega arith; most = omega arith }
place_within Name = record { least = omega arith; most = omega arith }
place_within Range = record { least = omega arith; most = omega arith }
place_within Names = record { least = omega arith; most = omega arith }
place_within Terms = record { least = omega arith; most = omega arith }
