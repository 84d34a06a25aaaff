-- Digits, and the number that they write.
use Rattle.std.proofs.Common.{◌≡◌, ℕ, ◌-◌, ◌<◌, ◌≤◌, List, true, length, get_or, arith}
use Rattle.std.specs.List.{list_all}
use Rattle.std.specs.Char.{is_ascii_digit, digit_value}
use Rattle.std.proofs.lemmas.Grind.{common_steps}
use Rattle.std.proofs.lemmas.Str.{digit_value_digit}

-- the value of a digit
pub digit_is : (b : ℕ) → is_ascii_digit b ≡ true → digit_value b ≡ b - 48
digit_is b e =
    let low : 48 ≤ b = grind (arith, common_steps) in
    let high : b ≤ 57 = grind (arith, common_steps) in
    let h = digit_value_digit b (low, high) in
    omega (arith, h)

-- each of them is a digit
pub digit_at : (xs : List ℕ) (i : ℕ) → list_all is_ascii_digit xs ≡ true → i < length xs → is_ascii_digit (get_or xs i 0) ≡ true
digit_at xs i all h = grind (arith, common_steps)
