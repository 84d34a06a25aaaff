-- What a line is, as the plain lines and as the lines of JSON are.
use Rattle.std.specs.Prelude.{◌≡◌, ℕ, List, Result, Ok, Err}
use Rattle.itpg_base.specs.declared.text_code.TextCode.{TextCode}
use Rattle.itpg_edit.specs.Sites.{HasMoments}
use Rattle.edit_reader.specs.Readings.{Reading, Nothing, Changes}
use Rattle.edit_reader.specs.Lines.{LineOf}
use Rattle.json_port.specs.declared.line.JsonLine.{JsonLine}
use Rattle.json_port.specs.Lines.{JsonOf}
use Rattle.row_printer.specs.declared.form.Form.{Form}

-- what an object asks for, as a reading: nothing, its edit, or what the plain line is whose bytes it has
abbrev pub AsksAs : JsonLine → Result Reading TextCode → Type 0
AsksAs JsonLine.Blank what = what ≡ Ok Nothing
AsksAs (JsonLine.Edit edit) what = what ≡ Ok (Changes edit)
AsksAs (JsonLine.Text bytes) what = LineOf bytes what

-- the same of what a line of JSON is
abbrev pub JsonAsks : Result JsonLine TextCode → Result Reading TextCode → Type 0
JsonAsks (Ok asked) what = AsksAs asked what
JsonAsks (Err code) what = what ≡ Err code

-- a line of JSON is this: its own fault, what its object asks for, or the fault of the plain line in it
abbrev pub JsonIs : List ℕ → Result Reading TextCode → Type 0
JsonIs line what = (json : Result JsonLine TextCode) × JsonOf line json × JsonAsks json what

-- where the object is an edit, each of its numbers is a moment
abbrev pub HasJsonMoments : Result JsonLine TextCode → Type 0
HasJsonMoments (Ok (JsonLine.Edit edit)) = HasMoments edit
HasJsonMoments json = Unit {0}

-- a line of a form is this
abbrev pub LineIs : Form → List ℕ → Result Reading TextCode → Type 0
LineIs Form.Plain line what = LineOf line what
LineIs Form.Json line what = JsonIs line what

-- what is read is just this
abbrev pub Just : Result Reading TextCode → Result Reading TextCode → Type 0
Just what other = other ≡ what
