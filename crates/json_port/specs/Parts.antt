-- What stands under a name of an object.
use Rattle.std.specs.Prelude.{ℕ, ℤ, List, [], ◌∷◌, Bool, ◌&&◌, nat_le, Option, Some, None, option_map, option_and_then, if◌then◌else◌}
use Rattle.std.specs.List.{list_all}
use Rattle.itpg_base.specs.Words.{Word}
use Rattle.itpg_base.specs.declared.label_set.TheConstants.{MAX_LABELS}
use Rattle.script_lex.specs.Bytes.{is_plain}
use Rattle.edit_reader.specs.Names.{is_word}
use Rattle.serde_json.specs.Data.{Data, null, boolean, number, string, array, object, Items, no_items, item}
use Rattle.serde_json.specs.Find.{get, as_str, as_array, as_number, as_i64}
use Rattle.serde_json.specs.Events.{items_len, members_len}

-- each byte may stand between quotes
abbrev pub is_quotable : List ℕ → Bool
is_quotable text = list_all is_plain text

-- the text, if the test holds of it
abbrev pub only_if : (List ℕ → Bool) → List ℕ → Option (List ℕ)
only_if test text = if test text then Some text else None

-- the text under a name
abbrev pub text_at : List ℕ → Data → Option (List ℕ)
text_at key d = option_and_then as_str (get key d)

-- the word that a value is
abbrev pub name_of : Data → Option Word
name_of d = option_and_then (only_if is_word) (as_str d)

-- the word under a name
abbrev pub name_at : List ℕ → Data → Option Word
name_at key d = option_and_then name_of (get key d)

-- the text under a name, which may stand between quotes
abbrev pub value_at : List ℕ → Data → Option Word
value_at key d = option_and_then (only_if is_quotable) (text_at key d)

-- the whole number of 64 bits with a sign under a name
abbrev pub number_at : List ℕ → Data → Option ℤ
number_at key d = option_and_then as_i64 (option_and_then as_number (get key d))

-- the items, if each is a word
abbrev pub names_in : Items → Option (List Word)
names_in no_items = Some []
names_in (item d ds) = option_and_then (λ name. option_map (λ names. name ∷ names) (names_in ds)) (name_of d)

-- the items, if there is one, and no more than an object may have labels: equal ones count each
abbrev pub some_and_few : Items → Option Items
some_and_few items = if nat_le 1 (items_len items) && nat_le (items_len items) MAX_LABELS then Some items else None

-- the labels under a name, as they are listed
abbrev pub labels_at : List ℕ → Data → Option (List Word)
labels_at key d = option_and_then names_in (option_and_then some_and_few (option_and_then as_array (get key d)))

-- how many members an object has
abbrev pub count_of : Data → ℕ
count_of null = 0
count_of (boolean b) = 0
count_of (number n) = 0
count_of (string s) = 0
count_of (array items) = 0
count_of (object members) = members_len members
