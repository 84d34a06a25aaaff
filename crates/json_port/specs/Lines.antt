-- What a JSON line is: what it asks for, or its first fault.
use Rattle.std.specs.Prelude.{◌≡◌, ℕ, List, length, Bool, true, false, nat_le, Option, None, option_and_then, if◌then◌else◌, Result, Ok, Err}
use Rattle.std.specs.List.{list_all}
use Rattle.std.specs.Str.{is_utf8}
use Rattle.itpg_base.specs.declared.text_code.TextCode.{TextCode}
use Rattle.script_lex.specs.Bytes.{is_blank}
use Rattle.edit_reader.specs.declared.reading.TheConstants.{MAX_LINE}
use Rattle.edit_reader.specs.Faults.{without_end}
use Rattle.serde_json.specs.Data.{Data}
use Rattle.serde_json.specs.Read.{read}
use Rattle.json_port.specs.declared.line.JsonLine.{JsonLine}
use Rattle.json_port.specs.declared.line.JsonFault.{JsonFault}
use Rattle.json_port.specs.Objects.{Asked, asked}
use Rattle.json_port.specs.Faults.{Tells}

-- the value that serde_json reads, by its own definition, if the line is UTF-8
abbrev pub value_in : List ℕ → Option Data
value_in line = if is_utf8 line then read line else None

-- what the object asks for that the line is
abbrev pub asked_by : List ℕ → Option Asked
asked_by line = option_and_then asked (value_in line)

-- what a line is that isn't too long: blank if all its bytes are blanks, else what is told of what it asks for
abbrev pub ShortIs : Bool → List ℕ → Result JsonLine TextCode → Type 0
ShortIs true line result = result ≡ Ok JsonLine.Blank
ShortIs false line result = Tells (asked_by line) result

-- what a line is that has at most so many bytes, or more
abbrev pub FitIs : Bool → List ℕ → Result JsonLine TextCode → Type 0
FitIs true line result = ShortIs (list_all is_blank line) line result
FitIs false line result = result ≡ Err TextCode.Long

-- a line is what it is without one last CR: too long, blank, or what is told of what it asks for
abbrev pub JsonOf : List ℕ → Result JsonLine TextCode → Type 0
JsonOf line result = FitIs (nat_le (length (without_end line)) MAX_LINE) (without_end line) result

-- the answer of the code is one of these, or memory ran out
abbrev pub IsAnswer : (Result JsonLine TextCode → Type 0) → Result JsonLine JsonFault → Type 0
IsAnswer Is (Ok asked) = Is (Ok asked)
IsAnswer Is (Err (JsonFault.Bad code)) = Is (Err code)
IsAnswer Is (Err JsonFault.Memory) = Unit {0}
