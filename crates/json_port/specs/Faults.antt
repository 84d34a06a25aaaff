-- What is told of what a line asks for: the edit or the plain line, or its fault.
use Rattle.std.specs.Prelude.{◌≡◌, nat_le, Bool, IsTrue, IsFalse, List, [], ◌∷◌, length, Option, Some, None, Result, Ok, Err}
use Rattle.std.specs.List.{list_all}
use Rattle.itpg_base.specs.Words.{Word}
use Rattle.itpg_base.specs.declared.name.TheConstants.{MAX_NAME}
use Rattle.itpg_base.specs.declared.text_code.TextCode.{TextCode}
use Rattle.itpg_edit.specs.declared.edit.Edit.{Edit}
use Rattle.itpg_edit.specs.Sites.{HasMoments}
use Rattle.edit_reader.specs.Labels.{set_of}
use Rattle.json_port.specs.declared.line.JsonLine.{JsonLine}
use Rattle.json_port.specs.Objects.{Asked, Change, Line}

-- the names, the value and the labels of an edit
abbrev pub names_of : Edit → List Word
names_of (Edit.Begin name lo hi) = name ∷ []
names_of (Edit.Extend lo hi) = []
names_of (Edit.AddNode id labels) = id ∷ labels
names_of (Edit.AddEdge id labels source target) = id ∷ source ∷ target ∷ labels
names_of (Edit.Live id from to) = id ∷ []
names_of (Edit.Gone id from to) = id ∷ []
names_of (Edit.Put id prop value from to) = id ∷ prop ∷ value ∷ []
names_of (Edit.Clear id prop from to) = id ∷ prop ∷ []
names_of (Edit.Remove id) = id ∷ []

-- the text is no longer than a name may be
abbrev pub is_short : Word → Bool
is_short text = nat_le (length text) MAX_NAME

-- no name, value or label of the edit is too long
abbrev pub has_short_names : Edit → Bool
has_short_names edit = list_all is_short (names_of edit)

-- the edit with the set of the labels that it lists
abbrev pub with_set : Edit → Edit
with_set (Edit.AddNode id labels) = Edit.AddNode id (set_of labels)
with_set (Edit.AddEdge id labels source target) = Edit.AddEdge id (set_of labels) source target
with_set edit = edit

-- an edit that is asked for is told as it is, or a number of it is no moment, or else a name is too long
abbrev pub IsTold : Edit → Result Edit TextCode → Type 0
IsTold asked (Ok edit) = HasMoments asked × IsTrue (has_short_names asked) × (edit ≡ with_set asked)
IsTold asked (Err TextCode.Number) = ¬ HasMoments asked
IsTold asked (Err TextCode.Name) = HasMoments asked × IsFalse (has_short_names asked)
IsTold asked (Err _) = ⊥

-- what is told if this is asked for, or nothing is
abbrev pub Tells : Option Asked → Result JsonLine TextCode → Type 0
Tells None result = result ≡ Err TextCode.Text
Tells (Some (Line text)) result = result ≡ Ok (JsonLine.Text text)
Tells (Some (Change asked)) (Ok (JsonLine.Edit edit)) = IsTold asked (Ok edit)
Tells (Some (Change asked)) (Ok _) = ⊥
Tells (Some (Change asked)) (Err code) = IsTold asked (Err code)
