-- What an edit of a line has: moments, sets of labels, and words as names of what it declares.
use Rattle.std.proofs.Common.{◌≡◌, ℕ, suc, ◌<◌, ◌≤◌, List, ◌∷◌, length, Bool, true, false, ◌&&◌, nat_le, Option, Some, None, option_map, option_and_then, Ok, refl, sym, ap, subst, arith, codes, if◌then◌else◌}
use Rattle.std.specs.Prelude.{IfSome, IsTrue}
use Rattle.std.specs.List.{list_all}
use Rattle.std.proofs.lemmas.Bool.{leb-true}
use Rattle.itpg_base.specs.Words.{Word}
use Rattle.itpg_base.specs.declared.label_set.TheConstants.{MAX_LABELS}
use Rattle.itpg_edit.specs.declared.edit.Edit.{Edit}
use Rattle.itpg_edit.specs.Sites.{HasMoments, HasLabels}
use Rattle.edit_reader.specs.declared.reading.TheConstants.{MAX_LINE}
use Rattle.edit_reader.specs.Faults.{without_end}
use Rattle.edit_reader.specs.Names.{is_word, HasNewWord}
use Rattle.edit_reader.proofs.LabelSets.{are_labels}
use Rattle.script_lex.specs.Bytes.{is_blank}
use Rattle.serde_json.specs.Data.{Data, Items, no_items, item}
use Rattle.serde_json.specs.Events.{items_len}
use Rattle.serde_json.specs.Find.{get, as_str, as_array}
use Rattle.json_port.specs.declared.line.JsonLine.{JsonLine}
use Rattle.json_port.specs.declared.op.Op.{Op}
use Rattle.json_port.specs.Parts.{only_if, name_of, names_in, some_and_few, labels_at, name_at, number_at, value_at, text_at}
use Rattle.json_port.specs.Objects.{Asked, Change, Line, made, asked_as, asked, op_in}
use Rattle.json_port.specs.Faults.{IsTold, Tells}
use Rattle.json_port.specs.Lines.{asked_by, value_in, ShortIs, FitIs, JsonOf}

-- as many as an object may have labels
abbrev AreSome : List Word → Type 0
AreSome names = (0 < length names) × (length names ≤ MAX_LABELS)

-- the labels that are listed are so many, and a new name is a word
abbrev IsListed : Asked → Type 0
IsListed (Change (Edit.Begin name lo hi)) = IsTrue (is_word name)
IsListed (Change (Edit.AddNode id labels)) = AreSome labels × (IsTrue (is_word id))
IsListed (Change (Edit.AddEdge id labels source target)) = AreSome labels × (IsTrue (is_word id))
IsListed _ = Unit {0}

-- the labels of an object
counted_step : (name : Option Word) (names : Option (List Word)) (n : ℕ) → IfSome names (λ ns. length ns ≡ n) → IfSome (option_and_then (λ a. option_map (λ ns. a ∷ ns) names) name) (λ ns. length ns ≡ suc n)
counted_step None names n h = tt
counted_step (Some a) None n h = tt
counted_step (Some a) (Some ns) n h = ap suc h

names_counted : (items : Items) → IfSome (names_in items) (λ names. length names ≡ items_len items)
names_counted no_items = refl
names_counted (item d ds) = counted_step (name_of d) (names_in ds) (items_len ds) (names_counted ds)

some_of_them : (n : ℕ) (names : Option (List Word)) → 1 ≤ n → n ≤ MAX_LABELS → IfSome names (λ ns. length ns ≡ n) → IfSome names AreSome
some_of_them n None least most h = tt
some_of_them n (Some ns) least most h = (omega (arith, least, h), omega (arith, most, h))

few_cases : (items : Items) (least most : Bool) → nat_le 1 (items_len items) ≡ least → nat_le (items_len items) MAX_LABELS ≡ most → IfSome (option_and_then names_in (if least && most then Some items else None)) AreSome
few_cases items true true a b = some_of_them (items_len items) (names_in items) (leb-true 1 (items_len items) a) (leb-true (items_len items) MAX_LABELS b) (names_counted items)
few_cases items true false a b = tt
few_cases items false most a b = tt

few_named : (items : Option Items) → IfSome (option_and_then names_in (option_and_then some_and_few items)) AreSome
few_named None = tt
few_named (Some items) = few_cases items (nat_le 1 (items_len items)) (nat_le (items_len items) MAX_LABELS) refl refl

labels_some : (key : List ℕ) (d : Data) → IfSome (labels_at key d) AreSome
labels_some key d = few_named (option_and_then as_array (get key d))

-- what an object asks for
map_each : {A B : Type 0} (P : B → Type 0) (f : A → B) (a : Option A) → ((x : A) → P (f x)) → IfSome (option_map f a) P
map_each P f None h = tt
map_each P f (Some x) h = h x

map_with : {A B : Type 0} (P : B → Type 0) (Q : A → Type 0) (f : A → B) (a : Option A) → IfSome a Q → ((x : A) → Q x → P (f x)) → IfSome (option_map f a) P
map_with P Q f None q h = tt
map_with P Q f (Some x) q h = h x q

made_each : {A B : Type 0} (P : B → Type 0) (f : Option (A → B)) (a : Option A) → IfSome f (λ g. (x : A) → P (g x)) → IfSome (made f a) P
made_each P None a h = tt
made_each P (Some g) None h = tt
made_each P (Some g) (Some x) h = h x

made_with : {A B : Type 0} (P : B → Type 0) (Q : A → Type 0) (f : Option (A → B)) (a : Option A) → IfSome a Q → IfSome f (λ g. (x : A) → Q x → P (g x)) → IfSome (made f a) P
made_with P Q None a q h = tt
made_with P Q (Some g) None q h = tt
made_with P Q (Some g) (Some x) q h = h x q

then_each : {A B : Type 0} (P : B → Type 0) (f : A → Option B) (a : Option A) → ((x : A) → IfSome (f x) P) → IfSome (option_and_then f a) P
then_each P f None h = tt
then_each P f (Some x) h = h x

abbrev AWord : Word → Type 0
AWord name = IsTrue (is_word name)

only_words : (text : List ℕ) (b : Bool) → is_word text ≡ b → IfSome (if b then Some text else None) AWord
only_words text true e = e
only_words text false e = tt

name_some : (key : List ℕ) (d : Data) → IfSome (name_at key d) AWord
name_some key d = then_each AWord name_of (get key d) (λ found. then_each AWord (only_if is_word) (as_str found) (λ text. only_words text (is_word text) refl))

listed_as : (op : Op) (d : Data) → IfSome (asked_as op d) IsListed
listed_as Op.Graph d = made_each IsListed _ (number_at (codes "hi") d) (made_each _ _ (number_at (codes "lo") d) (map_with _ AWord _ (name_at (codes "name") d) (name_some (codes "name") d) (λ name word lo hi. word)))
listed_as Op.Extend d = made_each IsListed _ (number_at (codes "hi") d) (map_each _ _ (number_at (codes "lo") d) (λ lo hi. tt))
listed_as Op.Node d = made_with IsListed AreSome _ (labels_at (codes "labels") d) (labels_some (codes "labels") d) (map_with _ AWord _ (name_at (codes "id") d) (name_some (codes "id") d) (λ id word labels few. (few, word)))
listed_as Op.Edge d =
    made_each IsListed _ (name_at (codes "target") d) (made_each _ _ (name_at (codes "source") d)
    (made_with _ AreSome _ (labels_at (codes "labels") d) (labels_some (codes "labels") d) (map_with _ AWord _ (name_at (codes "id") d) (name_some (codes "id") d) (λ id word labels few source target. (few, word)))))
listed_as Op.Live d = made_each IsListed _ (number_at (codes "to") d) (made_each _ _ (number_at (codes "from") d) (map_each _ _ (name_at (codes "id") d) (λ id from to. tt)))
listed_as Op.Gone d = made_each IsListed _ (number_at (codes "to") d) (made_each _ _ (number_at (codes "from") d) (map_each _ _ (name_at (codes "id") d) (λ id from to. tt)))
listed_as Op.Set d =
    made_each IsListed _ (number_at (codes "to") d) (made_each _ _ (number_at (codes "from") d) (made_each _ _ (value_at (codes "value") d) (made_each _ _ (name_at (codes "prop") d)
    (map_each _ _ (name_at (codes "id") d) (λ id prop value from to. tt)))))
listed_as Op.Unset d =
    made_each IsListed _ (number_at (codes "to") d) (made_each _ _ (number_at (codes "from") d) (made_each _ _ (name_at (codes "prop") d) (map_each _ _ (name_at (codes "id") d) (λ id prop from to. tt))))
listed_as Op.Drop d = map_each IsListed _ (name_at (codes "id") d) (λ id. tt)
listed_as Op.Text d = map_each IsListed _ (text_at (codes "line") d) (λ line. tt)

asked_listed : (line : List ℕ) → IfSome (asked_by line) IsListed
asked_listed line = then_each IsListed asked (value_in line) (λ d. then_each IsListed (λ op. asked_as op d) (op_in d) (λ op. listed_as op d))

-- what is told of it
pub record IsGood (edit : Edit) : Type 0 where
  pub moments : HasMoments edit
  pub labels : HasLabels edit
  pub words : HasNewWord edit

good : (edit : Edit) → HasMoments edit → HasLabels edit → HasNewWord edit → IsGood edit
good edit m l w = record { moments = m; labels = l; words = w }

good_edit : (asked edit : Edit) → IsListed (Change asked) → IsTold asked (Ok edit) → IsGood edit
good_edit (Edit.Begin name lo hi) edit few f = subst IsGood (sym f.2) (good _ f.0 tt few)
good_edit (Edit.Extend lo hi) edit few f = subst IsGood (sym f.2) (good _ f.0 tt tt)
good_edit (Edit.AddNode id labels) edit few f = subst IsGood (sym f.2) (good _ tt (are_labels labels few.0.0 few.0.1) few.1)
good_edit (Edit.AddEdge id labels source target) edit few f = subst IsGood (sym f.2) (good _ tt (are_labels labels few.0.0 few.0.1) few.1)
good_edit (Edit.Live id from to) edit few f = subst IsGood (sym f.2) (good _ f.0 tt tt)
good_edit (Edit.Gone id from to) edit few f = subst IsGood (sym f.2) (good _ f.0 tt tt)
good_edit (Edit.Put id prop value from to) edit few f = subst IsGood (sym f.2) (good _ f.0 tt tt)
good_edit (Edit.Clear id prop from to) edit few f = subst IsGood (sym f.2) (good _ f.0 tt tt)
good_edit (Edit.Remove id) edit few f = subst IsGood (sym f.2) (good _ tt tt tt)

good_told : (o : Option Asked) (edit : Edit) → IfSome o IsListed → Tells o (Ok (JsonLine.Edit edit)) → IsGood edit
good_told None edit few f = let no : ⊥ = cc in absurd no
good_told (Some (Line text)) edit few f = let no : ⊥ = cc in absurd no
good_told (Some (Change asked)) edit few f = good_edit asked edit few f

good_short : (blank : Bool) (line : List ℕ) (edit : Edit) → ShortIs blank line (Ok (JsonLine.Edit edit)) → IsGood edit
good_short true line edit f = let no : ⊥ = cc in absurd no
good_short false line edit f = good_told (asked_by line) edit (asked_listed line) f

good_fit : (fits : Bool) (line : List ℕ) (edit : Edit) → FitIs fits line (Ok (JsonLine.Edit edit)) → IsGood edit
good_fit true line edit f = good_short (list_all is_blank line) line edit f
good_fit false line edit f = let no : ⊥ = cc in absurd no

pub good_line : (line : List ℕ) (edit : Edit) → JsonOf line (Ok (JsonLine.Edit edit)) → IsGood edit
good_line line edit f = good_fit (nat_le (length (without_end line)) MAX_LINE) (without_end line) edit f
