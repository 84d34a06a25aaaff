-- What a line is: what it asks for, or its first fault.
use Rattle.std.specs.Prelude.{◌≡◌, ◌⊎◌, ◌<◌, ℕ, List, Some, Result, Ok, Err, IsTrue}
use Rattle.itpg_base.specs.declared.text_code.TextCode.{TextCode}
use Rattle.itpg_base.specs.TextCodes.{text_place}
use Rattle.edit_reader.specs.Readings.{Reading, Nothing}
use Rattle.edit_reader.specs.Forms.{form_of}
use Rattle.edit_reader.specs.Faults.{without_end, is_silent, OfTokens, HasFault}

-- the line asks for nothing, since it is blank or a comment, or for this, since its tokens are such a form
abbrev pub ReadsAs : List ℕ → Reading → Type 0
ReadsAs line reading = (IsTrue (is_silent line) × (reading ≡ Nothing)) ⊎ OfTokens line (λ tokens end. form_of line tokens ≡ Some reading)

-- of the faults that there are this one is the first, in the order in which they are tried
pub record IsFirst (Has : TextCode → Type 0) (code : TextCode) : Type 0 where
  pub there : Has code
  pub first : (earlier : TextCode) → text_place earlier < text_place code → ¬ Has earlier

-- the line, which is taken without its end, has no fault and reads as this, or this is the first of its faults
abbrev pub TakenAs : List ℕ → Result Reading TextCode → Type 0
TakenAs line (Ok reading) = ((code : TextCode) → ¬ HasFault line code) × ReadsAs line reading
TakenAs line (Err code) = IsFirst (HasFault line) code

-- a line is what it is without one last CR
abbrev pub LineOf : List ℕ → Result Reading TextCode → Type 0
LineOf line result = TakenAs (without_end line) result
