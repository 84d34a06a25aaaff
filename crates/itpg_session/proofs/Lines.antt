-- What a line of a form is: exactly one thing, whose moments, labels and new names are such; and a front part of a long line is what the line is.
use Rattle.std.proofs.Common.{◌≡◌, ℕ, List, ◌≤◌, take, refl, sym, subst, ◌∙◌}
use Rattle.std.specs.Prelude.{◌↔◌, Result, Ok, Err}
use Rattle.itpg_base.specs.declared.text_code.TextCode.{TextCode}
use Rattle.itpg_edit.specs.declared.edit.Edit.{Edit}
use Rattle.itpg_edit.specs.Sites.{HasMoments, HasLabels}
use Rattle.edit_reader.specs.Readings.{Reading, Nothing, Changes}
use Rattle.edit_reader.specs.Lines.{LineOf}
use Rattle.edit_reader.specs.Moments.{AsksOfMoments, AsksForLabels}
use Rattle.edit_reader.specs.Names.{HasNewWord, AsksForWords}
use Rattle.json_port.specs.declared.line.JsonLine.{JsonLine}
use Rattle.json_port.specs.Lines.{JsonOf}
use Rattle.row_printer.specs.declared.form.Form.{Form}
use Rattle.itpg_session.specs.Lines.{Just, JsonAsks, LineIs}

-- the laws of plain lines and of lines of JSON
pub record LineLaws : Type 0 where
  pub some : (line : List ℕ) → (what : Result Reading TextCode) × LineOf line what
  pub one : (line : List ℕ) (a b : Result Reading TextCode) → LineOf line a → LineOf line b → a ≡ b
  pub moments : (line : List ℕ) (reading : Reading) → LineOf line (Ok reading) → AsksOfMoments reading
  pub labels : (line : List ℕ) (reading : Reading) → LineOf line (Ok reading) → AsksForLabels reading
  pub words : (line : List ℕ) (reading : Reading) → LineOf line (Ok reading) → AsksForWords reading
  pub some_json : (line : List ℕ) → (json : Result JsonLine TextCode) × JsonOf line json
  pub one_json : (line : List ℕ) (a b : Result JsonLine TextCode) → JsonOf line a → JsonOf line b → a ≡ b
  pub json_moments : (line : List ℕ) (edit : Edit) → JsonOf line (Ok (JsonLine.Edit edit)) → HasMoments edit
  pub json_labels : (line : List ℕ) (edit : Edit) → JsonOf line (Ok (JsonLine.Edit edit)) → HasLabels edit
  pub json_words : (line : List ℕ) (edit : Edit) → JsonOf line (Ok (JsonLine.Edit edit)) → HasNewWord edit

module _ (laws : LineLaws) where
  -- what an object asks for is exactly one thing
  some_asked : (json : Result JsonLine TextCode) → (what : Result Reading TextCode) × JsonAsks json what
  some_asked (Ok JsonLine.Blank) = (Ok Nothing, refl)
  some_asked (Ok (JsonLine.Edit edit)) = (Ok (Changes edit), refl)
  some_asked (Ok (JsonLine.Text bytes)) = laws.some bytes
  some_asked (Err code) = (Err code, refl)

  one_asked : (json : Result JsonLine TextCode) (a b : Result Reading TextCode) → JsonAsks json a → JsonAsks json b → a ≡ b
  one_asked (Ok JsonLine.Blank) a b x y = x ∙ sym y
  one_asked (Ok (JsonLine.Edit edit)) a b x y = x ∙ sym y
  one_asked (Ok (JsonLine.Text bytes)) a b x y = laws.one bytes a b x y
  one_asked (Err code) a b x y = x ∙ sym y

  -- so is a line
  pub some_line : (form : Form) (line : List ℕ) → (what : Result Reading TextCode) × LineIs form line what
  some_line Form.Plain line = laws.some line
  some_line Form.Json line = let json = laws.some_json line in let asked = some_asked json.0 in (asked.0, (json.0, json.1, asked.1))

  pub one_line : (form : Form) (line : List ℕ) (a b : Result Reading TextCode) → LineIs form line a → LineIs form line b → a ≡ b
  one_line Form.Plain line a b x y = laws.one line a b x y
  one_line Form.Json line a b (p, of_p, x) (q, of_q, y) = one_asked q a b (subst (λ json. JsonAsks json a) (laws.one_json line p q of_p of_q) x) y

  -- the numbers of a change are moments, its labels a set of labels, and the new names of a line words
  asked_reading : (a b : Reading) → Just (Ok a) (Ok b) → a ≡ b
  asked_reading a b is = cc

  pub json_line_moments : (line : List ℕ) (json : Result JsonLine TextCode) (reading : Reading) → JsonOf line json → JsonAsks json (Ok reading) → AsksOfMoments reading
  json_line_moments line (Ok JsonLine.Blank) reading of is = subst AsksOfMoments (asked_reading Nothing reading is) tt
  json_line_moments line (Ok (JsonLine.Edit edit)) reading of is = subst AsksOfMoments (asked_reading (Changes edit) reading is) (laws.json_moments line edit of)
  json_line_moments line (Ok (JsonLine.Text bytes)) reading of is = laws.moments bytes reading is
  json_line_moments line (Err code) reading of is = absurd (let no : ⊥ = cc in no)

  json_line_labels : (line : List ℕ) (json : Result JsonLine TextCode) (reading : Reading) → JsonOf line json → JsonAsks json (Ok reading) → AsksForLabels reading
  json_line_labels line (Ok JsonLine.Blank) reading of is = subst AsksForLabels (asked_reading Nothing reading is) tt
  json_line_labels line (Ok (JsonLine.Edit edit)) reading of is = subst AsksForLabels (asked_reading (Changes edit) reading is) (laws.json_labels line edit of)
  json_line_labels line (Ok (JsonLine.Text bytes)) reading of is = laws.labels bytes reading is
  json_line_labels line (Err code) reading of is = absurd (let no : ⊥ = cc in no)

  json_line_words : (line : List ℕ) (json : Result JsonLine TextCode) (reading : Reading) → JsonOf line json → JsonAsks json (Ok reading) → AsksForWords reading
  json_line_words line (Ok JsonLine.Blank) reading of is = subst AsksForWords (asked_reading Nothing reading is) tt
  json_line_words line (Ok (JsonLine.Edit edit)) reading of is = subst AsksForWords (asked_reading (Changes edit) reading is) (laws.json_words line edit of)
  json_line_words line (Ok (JsonLine.Text bytes)) reading of is = laws.words bytes reading is
  json_line_words line (Err code) reading of is = absurd (let no : ⊥ = cc in no)

  pub line_moments : (form : Form) (line : List ℕ) (reading : Reading) → LineIs form line (Ok reading) → AsksOfMoments reading
  line_moments Form.Plain line reading is = laws.moments line reading is
  line_moments Form.Json line reading (json, of, is) = json_line_moments line json reading of is

  pub line_labels : (form : Form) (line : List ℕ) (reading : Reading) → LineIs form line (Ok reading) → AsksForLabels reading
  line_labels Form.Plain line reading is = laws.labels line reading is
  line_labels Form.Json line reading (json, of, is) = json_line_labels line json reading of is

  pub line_words : (form : Form) (line : List ℕ) (reading : Reading) → LineIs form line (Ok reading) → AsksForWords reading
  line_words Form.Plain line reading is = laws.words line reading is
  line_words Form.Json line reading (json, of, is) = json_line_words line json reading of is

-- a long front of a line is what the line is
pub front_is : ((line : List ℕ) (n : ℕ) (what : Result Reading TextCode) → 65538 ≤ n → LineOf (take n line) what ↔ LineOf line what)
    → ((line : List ℕ) (n : ℕ) (json : Result JsonLine TextCode) → 65538 ≤ n → JsonOf (take n line) json ↔ JsonOf line json)
    → (form : Form) (line : List ℕ) (n : ℕ) (what : Result Reading TextCode) → 65538 ≤ n → LineIs form (take n line) what ↔ LineIs form line what
front_is plain json Form.Plain line n what long = plain line n what long
front_is plain json Form.Json line n what long = (
  λ (p, of, is). (p, (json line n p long).0 of, is),
  λ (p, of, is). (p, (json line n p long).1 of, is),
)
