-- Names are words: those that a line gives to what it begins, declares or adds.
use Rattle.std.specs.Prelude.{Bool, ◌&&◌, IsTrue}
use Rattle.std.specs.Char.{is_ascii_alphabetic}
use Rattle.std.specs.List.{list_all}
use Rattle.itpg_base.specs.Words.{Word}
use Rattle.itpg_edit.specs.declared.edit.Edit.{Edit}
use Rattle.script_lex.specs.Bytes.{is_word_byte, begins_with}
use Rattle.edit_reader.specs.Readings.{Reading, Changes, Watches, Opens, Follows}

-- a letter, and then letters, digits and `_`: the bytes are those of one word token
abbrev pub is_word : Word → Bool
is_word text = begins_with is_ascii_alphabetic text && list_all is_word_byte text

-- the name that the edit gives the graph that it begins, or the object that it declares, is a word
abbrev pub HasNewWord : Edit → Type 0
HasNewWord (Edit.Begin name lo hi) = IsTrue (is_word name)
HasNewWord (Edit.AddNode id labels) = IsTrue (is_word id)
HasNewWord (Edit.AddEdge id labels source target) = IsTrue (is_word id)
HasNewWord edit = Unit {0}

-- where a change is asked for, its new name is a word, and so is the name of a watch, a pin or a follow that the line adds
abbrev pub AsksForWords : Reading → Type 0
AsksForWords (Changes edit) = HasNewWord edit
AsksForWords (Watches name query) = IsTrue (is_word name)
AsksForWords (Opens name) = IsTrue (is_word name)
AsksForWords (Follows name query) = IsTrue (is_word name)
AsksForWords _ = Unit {0}
