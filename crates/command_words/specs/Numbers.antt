-- Numbers as decimal digits.
use Rattle.std.specs.Prelude.{◌≡◌, ℕ, ◌+◌, ◌-◌, ◌*◌, ◌^◌, ◌<◌, ◌≤◌, List, [], ◌∷◌, length, slice_index, EachIndex}

-- each byte is a decimal digit
abbrev pub AreDigits : List ℕ → Type 0
AreDigits text = EachIndex text (λ k. (48 ≤ slice_index text k) × (slice_index text k ≤ 57))

-- what the digits stand for: each weighs ten times as much as the next
abbrev pub value_of : List ℕ → ℕ
value_of [] = 0
value_of (c ∷ cs) = (c - 48) * 10 ^ length cs + value_of cs

-- one to twenty digits write the number
pub record Writes (text : List ℕ) (n : ℕ) : Type 0 where
  pub some : 0 < length text
  pub few : length text ≤ 20
  pub digits : AreDigits text
  pub value : value_of text ≡ n
