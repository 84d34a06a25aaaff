-- The objects that a JSON line may have.
use Rattle.std.specs.Prelude.{ℕ, List, [], ◌∷◌, ◌==◌, nat_eq, codes, Option, Some, None, option_map, option_and_then, if◌then◌else◌}
use Rattle.std.specs.Cmp.Lexicographic.{pointwise}
use Rattle.std.specs.List.{find}
use Rattle.itpg_edit.specs.declared.edit.Edit.{Edit}
use Rattle.serde_json.specs.Data.{Data}
use Rattle.json_port.specs.declared.op.Op.{Op}
use Rattle.json_port.specs.Parts.{text_at, name_at, value_at, number_at, labels_at, count_of}

-- what an object asks for: an edit, whose labels stand as they are listed, or what a plain line asks for
pub data Asked : Type 0 where
  Change : Edit → Asked
  Line : List ℕ → Asked

-- the word of each kind of object
abbrev pub op_word : Op → List ℕ
op_word Op.Graph = codes "graph"
op_word Op.Extend = codes "extend"
op_word Op.Node = codes "node"
op_word Op.Edge = codes "edge"
op_word Op.Live = codes "live"
op_word Op.Gone = codes "gone"
op_word Op.Set = codes "set"
op_word Op.Unset = codes "unset"
op_word Op.Drop = codes "drop"
op_word Op.Text = codes "text"

-- all kinds
abbrev pub ops : List Op
ops = Op.Live ∷ Op.Set ∷ Op.Node ∷ Op.Edge ∷ Op.Gone ∷ Op.Unset ∷ Op.Drop ∷ Op.Text ∷ Op.Extend ∷ Op.Graph ∷ []

-- the kind that has this word
unfoldable pub op_of : List ℕ → Option Op
op_of word = find (λ op. pointwise nat_eq (op_word op) word) ops

-- how many members an object of each kind has, `op` among them
abbrev pub op_count : Op → ℕ
op_count Op.Graph = 4
op_count Op.Extend = 3
op_count Op.Node = 3
op_count Op.Edge = 5
op_count Op.Live = 4
op_count Op.Gone = 4
op_count Op.Set = 6
op_count Op.Unset = 5
op_count Op.Drop = 2
op_count Op.Text = 2

-- what the parts make, if all of them are there
abbrev pub made : {A B : Type 0} → Option (A → B) → Option A → Option B
made f a = option_and_then (λ g. option_map g a) f

-- what an object of each kind asks for
abbrev pub asked_as : Op → Data → Option Asked
asked_as Op.Graph d = made (made (option_map (λ name lo hi. Change (Edit.Begin name lo hi)) (name_at (codes "name") d)) (number_at (codes "lo") d)) (number_at (codes "hi") d)
asked_as Op.Extend d = made (option_map (λ lo hi. Change (Edit.Extend lo hi)) (number_at (codes "lo") d)) (number_at (codes "hi") d)
asked_as Op.Node d = made (option_map (λ id labels. Change (Edit.AddNode id labels)) (name_at (codes "id") d)) (labels_at (codes "labels") d)
asked_as Op.Edge d =
    made (made (made (option_map (λ id labels source target. Change (Edit.AddEdge id labels source target)) (name_at (codes "id") d)) (labels_at (codes "labels") d)) (name_at (codes "source") d))
    (name_at (codes "target") d)
asked_as Op.Live d = made (made (option_map (λ id from to. Change (Edit.Live id from to)) (name_at (codes "id") d)) (number_at (codes "from") d)) (number_at (codes "to") d)
asked_as Op.Gone d = made (made (option_map (λ id from to. Change (Edit.Gone id from to)) (name_at (codes "id") d)) (number_at (codes "from") d)) (number_at (codes "to") d)
asked_as Op.Set d =
    made (made (made (made (option_map (λ id prop value from to. Change (Edit.Put id prop value from to)) (name_at (codes "id") d)) (name_at (codes "prop") d)) (value_at (codes "value") d))
    (number_at (codes "from") d)) (number_at (codes "to") d)
asked_as Op.Unset d =
    made (made (made (option_map (λ id prop from to. Change (Edit.Clear id prop from to)) (name_at (codes "id") d)) (name_at (codes "prop") d)) (number_at (codes "from") d)) (number_at (codes "to") d)
asked_as Op.Drop d = option_map (λ id. Change (Edit.Remove id)) (name_at (codes "id") d)
asked_as Op.Text d = option_map (λ line. Line line) (text_at (codes "line") d)

-- the kind, if the object has as many members
abbrev pub counted : Data → Op → Option Op
counted d op = if count_of d == op_count op then Some op else None

-- the kind that an object names under `op`, if it has as many members as the kind
abbrev pub op_in : Data → Option Op
op_in d = option_and_then (counted d) (option_and_then op_of (text_at (codes "op") d))

-- what an object asks for
abbrev pub asked : Data → Option Asked
asked d = option_and_then (λ op. asked_as op d) (op_in d)
