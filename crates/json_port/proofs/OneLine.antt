-- A line is one thing alone.
use Rattle.std.proofs.Common.{◌≡◌, ◌⊎◌, inl, inr, ℕ, ◌<◌, ◌≤◌, List, Bool, true, false, Option, Some, None, Result, Ok, Err, refl, sym, ap, ◌∙◌, arith, subst, true≢false}
use Rattle.std.specs.Prelude.{length, nat_le, IsFalse}
use Rattle.std.proofs.lemmas.Bool.{leb-true, le-leb}
use Rattle.script_lex.specs.Bytes.{is_blank}
use Rattle.std.specs.List.{list_all}
use Rattle.edit_reader.specs.declared.reading.TheConstants.{MAX_LINE}
use Rattle.edit_reader.specs.Faults.{without_end}
use Rattle.itpg_base.specs.declared.text_code.TextCode.{TextCode}
use Rattle.itpg_base.specs.declared.text_code.TextCode.TheVariants.{Long, Byte, Tokens, Deep, Text, Number, Name, Range, Names, Terms}
use Rattle.itpg_edit.specs.declared.edit.Edit.{Edit}
use Rattle.itpg_edit.specs.Sites.{HasMoments}
use Rattle.json_port.specs.declared.line.JsonLine.{JsonLine}
use Rattle.json_port.specs.declared.line.JsonFault.{JsonFault}
use Rattle.json_port.specs.Objects.{Asked, Change, Line}
use Rattle.json_port.specs.Faults.{has_short_names, IsTold, Tells}
use Rattle.json_port.specs.Lines.{asked_by, ShortIs, FitIs, JsonOf, IsAnswer}

abbrev IsFar : Edit → TextCode → Type 0
IsFar asked code = (code ≡ Number) × (¬ HasMoments asked)

abbrev IsLong : Edit → TextCode → Type 0
IsLong asked code = (code ≡ Name) × (HasMoments asked × IsFalse (has_short_names asked))

-- the fault of an edit is one of two
which : (asked : Edit) (code : TextCode) → IsTold asked (Err code) → IsFar asked code ⊎ IsLong asked code
which asked Number f = inl (refl, f)
which asked Name f = inr (refl, f)
which asked Long f = absurd f
which asked Byte f = absurd f
which asked Tokens f = absurd f
which asked Deep f = absurd f
which asked Text f = absurd f
which asked Range f = absurd f
which asked Names f = absurd f
which asked Terms f = absurd f

no_code : (asked edit : Edit) (code : TextCode) → IsTold asked (Ok edit) → IsTold asked (Err code) → ⊥
no_code asked edit code f g = elim (which asked code g) [ inl far ↦ far.1 f.0 | inr long ↦ true≢false (sym f.1 ∙ long.1.1) ]

one_code : (asked : Edit) (a b : TextCode) → IsTold asked (Err a) → IsTold asked (Err b) → a ≡ b
one_code asked a b f g = elim (which asked a f) [
  | inl far ↦ elim (which asked b g) [ inl too ↦ far.0 ∙ sym too.0 | inr long ↦ absurd (far.1 long.1.0) ]
  | inr long ↦ elim (which asked b g) [ inl far ↦ absurd (far.1 long.1.0) | inr too ↦ long.0 ∙ sym too.0 ]
]

one_told : (o : Option Asked) (a b : Result JsonLine TextCode) → Tells o a → Tells o b → a ≡ b
one_told None a b f g = f ∙ sym g
one_told (Some (Line text)) a b f g = f ∙ sym g
one_told (Some (Change asked)) (Ok (JsonLine.Edit a)) (Ok (JsonLine.Edit b)) f g = ap (λ e. Ok (JsonLine.Edit e)) (f.2 ∙ sym g.2)
one_told (Some (Change asked)) (Ok (JsonLine.Edit a)) (Err code) f g = absurd (no_code asked a code f g)
one_told (Some (Change asked)) (Err code) (Ok (JsonLine.Edit b)) f g = absurd (no_code asked b code g f)
one_told (Some (Change asked)) (Err a) (Err b) f g = ap Err (one_code asked a b f g)
one_told (Some (Change asked)) (Ok (JsonLine.Edit a)) (Ok JsonLine.Blank) f g = absurd g
one_told (Some (Change asked)) (Ok (JsonLine.Edit a)) (Ok (JsonLine.Text t)) f g = absurd g
one_told (Some (Change asked)) (Err a) (Ok JsonLine.Blank) f g = absurd g
one_told (Some (Change asked)) (Err a) (Ok (JsonLine.Text t)) f g = absurd g
one_told (Some (Change asked)) (Ok JsonLine.Blank) b f g = absurd f
one_told (Some (Change asked)) (Ok (JsonLine.Text t)) b f g = absurd f

one_short : (blank : Bool) (line : List ℕ) (a b : Result JsonLine TextCode) → ShortIs blank line a → ShortIs blank line b → a ≡ b
one_short true line a b f g = f ∙ sym g
one_short false line a b f g = one_told _ a b f g

one_fit : (fits : Bool) (line : List ℕ) (a b : Result JsonLine TextCode) → FitIs fits line a → FitIs fits line b → a ≡ b
one_fit true line a b f g = one_short _ line a b f g
one_fit false line a b f g = f ∙ sym g

pub one_line : (line : List ℕ) (a b : Result JsonLine TextCode) → JsonOf line a → JsonOf line b → a ≡ b
one_line line a b f g = one_fit (nat_le (length (without_end line)) MAX_LINE) (without_end line) a b f g

-- a line of more bytes is too long
too_long_at : (fits : Bool) (line : List ℕ) → nat_le (length line) MAX_LINE ≡ fits → MAX_LINE < length line → FitIs fits line (Err TextCode.Long)
too_long_at true line e h = let fits = leb-true (length line) MAX_LINE e in absurd (omega (arith, fits, h))
too_long_at false line e h = refl

pub too_long : (line : List ℕ) → MAX_LINE < length (without_end line) → JsonOf line (Err TextCode.Long)
too_long line h = too_long_at (nat_le (length (without_end line)) MAX_LINE) (without_end line) refl h

-- what the code answers is the one thing that the line is
pub only_answer : (line : List ℕ) (result : Result JsonLine JsonFault) → IsAnswer (JsonOf line) result → (other : Result JsonLine TextCode) → JsonOf line other → IsAnswer (λ answer. answer ≡ other) result
only_answer line (Ok answer) f other g = one_line line (Ok answer) other f g
only_answer line (Err (JsonFault.Bad code)) f other g = one_line line (Err code) other f g
only_answer line (Err JsonFault.Memory) f other g = tt

-- what a line is that isn't too long and isn't blank
filled_answer : (text : List ℕ) (result : Result JsonLine JsonFault) → nat_le (length text) MAX_LINE ≡ true → list_all is_blank text ≡ false → IsAnswer (Tells (asked_by text)) result → IsAnswer (FitIs (nat_le (length text) MAX_LINE) text) result
filled_answer text result fits filled told = subst (λ b. IsAnswer (FitIs b text) result) (sym fits) (subst (λ b. IsAnswer (ShortIs b text) result) (sym filled) told)

pub line_answer : (line text : List ℕ) (blank : Bool) (result : Result JsonLine JsonFault) → text ≡ without_end line → length text ≤ MAX_LINE → blank ≡ list_all is_blank text → blank ≡ false → IsAnswer (Tells (asked_by text)) result → IsAnswer (JsonOf line) result
line_answer line text blank result same fits is filled told =
    subst (λ t. IsAnswer (FitIs (nat_le (length t) MAX_LINE) t) result) same (filled_answer text result (le-leb (length text) MAX_LINE fits) (sym is ∙ filled) told)
