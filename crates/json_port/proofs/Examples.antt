-- Lines and numbers of the worked examples.
use Rattle.std.proofs.Common.{◌≡◌, ℕ, zero, suc, ◌<◌, List, [], ◌∷◌, length, nat_le, Bool, true, false, option_and_then, Result, subst, sym, refl, arith}
use Rattle.std.specs.Prelude.{nat_lt, slice_index, pos, neg_ℤ}
use Rattle.std.specs.List.{list_all}
use Rattle.std.proofs.lemmas.Bool.{and_parts, ltb-true}
use Rattle.std.proofs.lemmas.Str.{IsUtf8-from_ascii, is_utf8-from_IsUtf8}
use Rattle.itpg_base.specs.declared.text_code.TextCode.{TextCode}
use Rattle.itpg_base.specs.Spans.{IsMoment}
use Rattle.script_lex.specs.Bytes.{is_blank}
use Rattle.edit_reader.specs.declared.reading.TheConstants.{MAX_LINE}
use Rattle.edit_reader.specs.Faults.{without_end}
use Rattle.serde_json.specs.Read.{read}
use Rattle.json_port.specs.declared.line.JsonLine.{JsonLine}
use Rattle.json_port.specs.Objects.{asked}
use Rattle.json_port.specs.Faults.{Tells}
use Rattle.json_port.specs.Lines.{asked_by, FitIs, JsonOf}

abbrev pub is_low : ℕ → Bool
is_low b = nat_lt b 128

are_ascii : (line : List ℕ) → list_all is_low line ≡ true → (i : ℕ) → slice_index line i < 128
are_ascii [] e i = omega arith
are_ascii (b ∷ line) e zero = ltb-true b 128 (and_parts (is_low b) (list_all is_low line) e).0
are_ascii (b ∷ line) e (suc i) = are_ascii line (and_parts (is_low b) (list_all is_low line) e).1 i

value_of_ascii : (line : List ℕ) → list_all is_low line ≡ true → asked_by line ≡ option_and_then asked (read line)
value_of_ascii line low = rw (is_utf8-from_IsUtf8 line (IsUtf8-from_ascii line (are_ascii line low))) refl

short_line : (line : List ℕ) (result : Result JsonLine TextCode) → list_all is_low line ≡ true → nat_le (length line) MAX_LINE ≡ true → list_all is_blank line ≡ false → Tells (option_and_then asked (read line)) result
    → FitIs (nat_le (length line) MAX_LINE) line result
short_line line result low fits filled told =
    rw fits (rw filled (subst (λ o. Tells o result) (sym (value_of_ascii line low)) told))

-- a line of ASCII bytes is what is told of the value that serde_json reads
pub line_of : (line : List ℕ) (result : Result JsonLine TextCode) → list_all is_low (without_end line) ≡ true → nat_le (length (without_end line)) MAX_LINE ≡ true → list_all is_blank (without_end line) ≡ false
    → Tells (option_and_then asked (read (without_end line))) result → JsonOf line result
line_of line result low fits filled told = short_line (without_end line) result low fits filled told

pub zero_moment : IsMoment (pos 0)
zero_moment = record { least = omega arith; greatest = omega arith }

pub before_zero : IsMoment (neg_ℤ (pos 3))
before_zero = record { least = omega arith; greatest = omega arith }

pub twenty : IsMoment (pos 20)
twenty = record { least = omega arith; greatest = omega arith }

pub last_moment : IsMoment (pos 1000000000000)
last_moment = record { least = omega arith; greatest = omega arith }

pub too_late : IsMoment (pos 1000000000001) → ⊥
too_late m = let g = m.greatest in omega (arith, g)

pub too_early : IsMoment (neg_ℤ (pos 1000000000001)) → ⊥
too_early m = let l = m.least in omega (arith, l)

pub farthest : IsMoment (pos 9223372036854775807) → ⊥
farthest m = let g = m.greatest in omega (arith, g)
