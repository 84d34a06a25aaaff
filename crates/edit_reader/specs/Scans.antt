-- The tokens of a line as the code counts them: no public clause names what stands here.
use Rattle.std.specs.Prelude.{◌≡◌, ℕ, List, length, Option, Err}
use Rattle.itpg_base.specs.declared.text_code.TextCode.{TextCode}
use Rattle.script_lex.specs.Lines.{Placed, AreTokens}
use Rattle.edit_reader.specs.declared.faults.Scan.{Scan}
use Rattle.edit_reader.specs.Steps.{Told}
use Rattle.edit_reader.specs.Telling.{tokens_told}

-- the line has so many tokens, and this end
pub record IsScan (line : List ℕ) (scan : Scan) : Type 0 where
  pub tokens : List Placed
  pub are : AreTokens line 0 tokens scan.end
  pub count : scan.count ≡ length tokens

-- whatever the form says, this is the fault
abbrev pub IsScanFault : List Placed → Option TextCode → TextCode → Type 0
IsScanFault tokens end code = (go_on : Told) → tokens_told end (length tokens) go_on ≡ Err code
