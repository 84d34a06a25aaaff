-- Lines of which a front is kept.
use Rattle.std.proofs.Common.{◌≡◌, inl, inr, ℕ, ◌+◌, ◌<◌, ◌≤◌, List, Bool, false, Result, Err, length, take, sym, subst, arith}
use Rattle.std.specs.Prelude.{◌↔◌, nat_le}
use Rattle.std.proofs.lemmas.Bool.{cases_lt, lt-leb}
use Rattle.std.proofs.lemmas.List.{length-take-le, take_all}
use Rattle.itpg_base.specs.declared.text_code.TextCode.{TextCode}
use Rattle.edit_reader.specs.declared.reading.TheConstants.{MAX_LINE}
use Rattle.edit_reader.specs.Faults.{without_end}
use Rattle.edit_reader.proofs.LongLines.{shorter_by_one}
use Rattle.json_port.specs.declared.line.JsonLine.{JsonLine}
use Rattle.json_port.specs.Lines.{JsonOf, FitIs}

-- a line of more than one byte above the limit is too long, whatever its end, and nothing else
module _ (line : List ℕ) (many : MAX_LINE + 1 < length line) where
  too_many : nat_le (length (without_end line)) MAX_LINE ≡ false
  too_many = let short = shorter_by_one line in lt-leb (length (without_end line)) MAX_LINE (omega (arith, short, many))

  long_only : (result : Result JsonLine TextCode) → JsonOf line result → result ≡ Err TextCode.Long
  long_only result of = subst (λ (fits : Bool). FitIs fits (without_end line) result) too_many of

  long_is : (result : Result JsonLine TextCode) → result ≡ Err TextCode.Long → JsonOf line result
  long_is result is = subst (λ (fits : Bool). FitIs fits (without_end line) result) (sym too_many) is

pub front_decides : (line : List ℕ) (n : ℕ) (result : Result JsonLine TextCode) → 65538 ≤ n → JsonOf (take n line) result ↔ JsonOf line result
front_decides line n result enough = elim (cases_lt n (length line)) [
  | inl longer ↦
      let kept = length-take-le n line (omega arith) in
      let front : MAX_LINE + 1 < length (take n line) = omega (arith, kept) in
      let whole : MAX_LINE + 1 < length line = omega arith in (
        λ of. long_is line whole result (long_only (take n line) front result of),
        λ of. long_is (take n line) front result (long_only line whole result of),
      )
  | inr fits ↦
      let same : take n line ≡ line = take_all n line fits in (
        λ of. subst (λ (l : List ℕ). JsonOf l result) same of,
        λ of. subst (λ (l : List ℕ). JsonOf l result) (sym same) of,
      )
]
