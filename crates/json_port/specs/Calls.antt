-- What the calls inside find: no public clause but those of faults names what stands here.
use Rattle.std.specs.Prelude.{◌≡◌, ℕ, Bool, List, [], ◌∷◌, if◌then◌else◌, map, unwrap_or, Option, Some, None}
use Rattle.std.specs.List.{list_all}
use Rattle.std.specs.Borrow.{Bor}
use Rattle.itpg_base.specs.Words.{Word}
use Rattle.itpg_base.specs.declared.text_code.TextCode.{TextCode}
use Rattle.serde_json.specs.View.{view}
use Rattle.serde_json.specs.declared.value.Value.{Value}
use Rattle.json_port.specs.declared.line.JsonFault.{JsonFault}
use Rattle.edit_reader.specs.Names.{is_word}
use Rattle.json_port.specs.Parts.{name_of}
use Rattle.json_port.specs.Faults.{is_short}
use Rattle.json_port.specs.Lines.{value_in}

-- the word that an item is, or no byte
abbrev pub listed_name : Value → Word
listed_name item = unwrap_or (name_of (view item)) []

-- the words that all items are
abbrev pub listed_names : List Value → List Word
listed_names items = map listed_name items

-- the texts, if there is one, and each is a word
abbrev pub words : List Word → Option (List Word)
words [] = None
words (w ∷ ws) = if list_all is_word (w ∷ ws) then Some (w ∷ ws) else None

-- none of the texts that are lent is too long for a name
abbrev pub are_short : List (Bor (List ℕ)) → Bool
are_short names = list_all (λ name. is_short name.now) names

-- the fault is that the line has no value, or that memory ran out
abbrev pub IsRefusal : List ℕ → JsonFault → Type 0
IsRefusal line (JsonFault.Bad code) = (code ≡ TextCode.Text) × (value_in line ≡ None)
IsRefusal line JsonFault.Memory = Unit {0}
