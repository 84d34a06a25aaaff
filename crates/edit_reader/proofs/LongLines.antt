-- Lines of which a front is kept.
use Rattle.std.proofs.Common.{◌≡◌, inl, inr, ℕ, ◌+◌, ◌-◌, ◌<◌, ◌≤◌, List, Bool, true, false, Result, Err, length, take, sym, subst, arith}
use Rattle.std.specs.Prelude.{◌↔◌, nat_eq, slice_index, if◌then◌else◌}
use Rattle.std.proofs.lemmas.Bool.{cases_lt}
use Rattle.std.proofs.lemmas.List.{length-take-le, take_all}
use Rattle.itpg_base.specs.declared.text_code.TextCode.{TextCode}
use Rattle.edit_reader.specs.declared.reading.TheConstants.{MAX_LINE}
use Rattle.edit_reader.specs.Readings.{Reading}
use Rattle.edit_reader.specs.Faults.{without_end}
use Rattle.edit_reader.specs.Lines.{LineOf}
use Rattle.edit_reader.proofs.Firsts.{long_line, taken_once}

-- one byte at most is dropped
pub shorter_by_one : (line : List ℕ) → length line ≤ length (without_end line) + 1
shorter_by_one line = by_end (nat_eq (slice_index line (length line - 1)) 13)
  where
    by_end : (t : Bool) → length line ≤ length (if t then take (length line - 1) line else line) + 1
    by_end true = let n = length-take-le (length line - 1) line (omega arith) in omega (arith, n)
    by_end false = omega arith

-- a line of more than one byte above the limit is too long, whatever its end
too_long : (line : List ℕ) → MAX_LINE + 1 < length line → LineOf line (Err TextCode.Long)
too_long line many = let short = shorter_by_one line in long_line (without_end line) (omega (arith, short))

pub front_decides : (line : List ℕ) (n : ℕ) (result : Result Reading TextCode) → 65538 ≤ n → LineOf (take n line) result ↔ LineOf line result
front_decides line n result enough = elim (cases_lt n (length line)) [
  | inl longer ↦
      let kept = length-take-le n line (omega arith) in
      let front : LineOf (take n line) (Err TextCode.Long) = too_long (take n line) (omega (arith, kept)) in
      let whole : LineOf line (Err TextCode.Long) = too_long line (omega arith) in (
        λ is. subst (LineOf line) (taken_once (without_end (take n line)) (Err TextCode.Long) result front is) whole,
        λ is. subst (LineOf (take n line)) (taken_once (without_end line) (Err TextCode.Long) result whole is) front,
      )
  | inr fits ↦
      let same : take n line ≡ line = take_all n line fits in (
        λ is. subst (λ (l : List ℕ). LineOf l result) same is,
        λ is. subst (λ (l : List ℕ). LineOf l result) (sym same) is,
      )
]
