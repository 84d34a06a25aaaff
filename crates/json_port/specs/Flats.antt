-- Flat objects: the data that one is, and the lexemes by which it is written.
use Rattle.std.specs.Prelude.{◌≡◌, ℕ, ◌<◌, ◌^◌, ⊤, ◌⊎◌, Bool, ◌&&◌, nat_lt, List, [], ◌∷◌, ◌++◌, map, take, reverse}
use lib.Signed.{mag}
use Rattle.std.specs.List.{list_all}
use Rattle.std.specs.Fmt.{signed_decimal}
use Rattle.json.specs.Token as tokens
use Rattle.json.specs.Run.{is_plain}
use Rattle.json.specs.Lex.{Lexeme, token, comma, colon}
use Rattle.serde_json.specs.Data.{Data, number, string, array, Items, no_items, item, Members, no_members, put}
use Rattle.serde_json.specs.Find.{of_integer}
use Rattle.json_port.specs.declared.names.Names.{Names}
use Rattle.json_port.specs.declared.member.Part.{Part}
use Rattle.json_port.specs.declared.member.Member.{Member}
use Rattle.json_port.specs.Keys.{key_word}

-- the texts that are listed
abbrev pub listed : Names → List (List ℕ)
listed names = map (λ s. s.now) (take names.len names.items)

-- texts as items of an array
abbrev pub texts_data : List (List ℕ) → Items
texts_data [] = no_items
texts_data (s ∷ ss) = item (string s) (texts_data ss)

-- the data of a part, if these texts are listed
abbrev pub part_data : List (List ℕ) → Part → Data
part_data names (Part.Text s) = string s.now
part_data names (Part.Number n) = number (of_integer n)
part_data names Part.Names = array (texts_data names)

abbrev pub member_data : List (List ℕ) → Member → Data
member_data names m = part_data names m.part

-- members, the last one first: a later one replaces an earlier one of its name
abbrev pub latest : List (List ℕ) → List Member → Members
latest names [] = no_members
latest names (m ∷ ms) = put (key_word m.key) (member_data names m) (latest names ms)

-- the members in their order
abbrev pub members_of : List (List ℕ) → List Member → Members
members_of names ms = latest names (reverse ms)

-- lists of lexemes with commas between
abbrev pub between_commas : List (List Lexeme) → List Lexeme
between_commas [] = []
between_commas (x ∷ []) = x
between_commas (x ∷ y ∷ ys) = x ++ comma ∷ between_commas (y ∷ ys)

abbrev pub text_lexemes : List ℕ → List Lexeme
text_lexemes s = token (tokens.string s) ∷ []

-- items between two brackets, with commas between them
abbrev pub enclosed : {A : Type 0} → Lexeme → Lexeme → (A → List Lexeme) → List A → List Lexeme
enclosed opens closes f xs = opens ∷ (between_commas (map f xs) ++ closes ∷ [])

abbrev pub names_lexemes : List (List ℕ) → List Lexeme
names_lexemes names = enclosed (token tokens.begin_array) (token tokens.end_array) text_lexemes names

-- how a part is written
abbrev pub part_lexemes : List (List ℕ) → Part → List Lexeme
part_lexemes names (Part.Text s) = text_lexemes s.now
part_lexemes names (Part.Number n) = token (tokens.number (signed_decimal n)) ∷ []
part_lexemes names Part.Names = names_lexemes names

-- how a member is written
abbrev pub member_lexemes : List (List ℕ) → Member → List Lexeme
member_lexemes names m = token (tokens.string (key_word m.key)) ∷ colon ∷ part_lexemes names m.part

-- how an object is written
abbrev pub object_lexemes : List (List ℕ) → List Member → List Lexeme
object_lexemes names ms = enclosed (token tokens.begin_object) (token tokens.end_object) (member_lexemes names) ms

-- the number of a part has less than 63 bits
abbrev pub IsSized : Part → Type 0
IsSized (Part.Text s) = ⊤
IsSized (Part.Number n) = mag n < 2 ^ 63
IsSized Part.Names = ⊤

abbrev pub AreSized : List Member → Type 0
AreSized [] = ⊤
AreSized (m ∷ ms) = IsSized m.part × AreSized ms

-- the part is no list
abbrev pub IsScalar : Part → Type 0
IsScalar (Part.Text s) = ⊤
IsScalar (Part.Number n) = ⊤
IsScalar Part.Names = ⊥

abbrev pub AreScalars : List Member → Type 0
AreScalars [] = ⊤
AreScalars (m ∷ ms) = IsScalar m.part × AreScalars ms

-- a part is no list and no texts are listed by it, or it is the first that lists some
abbrev pub IsListedOnce : Names → Names → Part → Type 0
IsListedOnce before after part = ((after ≡ before) × IsScalar part) ⊎ ((before.len ≡ 0) × (0 < after.len))

-- each byte is of ASCII
abbrev pub are_ascii : List ℕ → Bool
are_ascii text = list_all (λ byte. nat_lt byte 128) text

-- the byte is of ASCII and stands for itself in a string
abbrev pub is_plain_ascii : ℕ → Bool
is_plain_ascii byte = is_plain byte && nat_lt byte 128
