-- What the lines of a script change.
use Rattle.std.specs.Prelude.{ℕ, zero, suc, ◌+◌, ◌*◌, pos, List, [], ◌∷◌, ◌++◌, codes, nat_eq, nat_lt, if◌then◌else◌, Ok}
use Rattle.std.specs.List.{flat_map, range_with_len}
use Rattle.itpg_base.specs.Words.{Word}
use Rattle.itpg_edit.specs.declared.edit.Edit.{Edit}
use Rattle.itpg_edit.specs.declared.edit.Edit.TheVariants.{Begin, AddNode, AddEdge, Live, Put}
use Rattle.edit_reader.specs.Readings.{Changes}
use Rattle.edit_reader.specs.Lines.{LineOf}
use Rattle.trial_script.specs.Draws.{after, draw}
use Rattle.trial_script.specs.Script.{Text, node_name, edge_name, after_sign, edits}

-- the first 150 nodes are persons, the others rooms
abbrev pub node_label : ℕ → Word
node_label i = if nat_lt i 150 then codes "Person" else codes "Room"

-- an edge whose kind is drawn as 0 meets its target, another visits it
abbrev pub edge_label : ℕ → Word
edge_label kind = if nat_eq kind 0 then codes "meets" else codes "visits"

-- the node is declared
unfoldable pub node_edit : ℕ → Edit
node_edit i = AddNode (node_name i) (node_label i ∷ [])

-- it exists from the first moment to the last
unfoldable pub node_life : ℕ → Edit
node_life i = Live (node_name i) (pos 0) (pos 9999)

-- an edge is declared, and then its life is given
unfoldable pub edge_pair_edits : ℕ → ℕ → ℕ → ℕ → ℕ → ℕ → List Edit
edge_pair_edits i source target kind from more =
    AddEdge (edge_name i) (edge_label kind ∷ []) (node_name source) (node_name target) ∷ Live (edge_name i) (pos from) (pos (from + more)) ∷ []

-- by five draws
unfoldable pub edge_edits : ℕ → ℕ → List Edit
edge_edits number i =
    let first = 5 * i in
    edge_pair_edits i (draw number first 200) (draw number (first + 1) 200) (draw number (first + 2) 2) (draw number (first + 3) 9900) (draw number (first + 4) 100)

-- what is set of a person, if anything is, where the draws begin at the state x
unfoldable pub sign_edits : ℕ → ℕ → List Edit
sign_edits i x =
    let from = draw x 1 9000 in
    if nat_eq (draw x 0 4) 0 then Put (node_name i) (codes "risk") (codes "high") (pos from) (pos (from + 999)) ∷ []
    else if nat_eq (draw x 0 4) 1 then Put (node_name i) (codes "test") (codes "pos") (pos from) (pos (from + 99)) ∷ [] else []

-- of so many persons from one on
unfoldable pub all_sign_edits : ℕ → ℕ → ℕ → List Edit
all_sign_edits zero i x = []
all_sign_edits (suc count) i x = sign_edits i x ++ all_sign_edits count (i + 1) (after_sign x)

-- the edits of each of so many things, from one on, in order
unfoldable pub each_edits : (ℕ → List Edit) → ℕ → ℕ → List Edit
each_edits edits_of from count = flat_map edits_of (range_with_len from count)

-- the edits of a number, one for each line before the questions
unfoldable pub changes : ℕ → List Edit
changes number =
    Begin (codes "trial") (pos 0) (pos 9999)
    ∷ each_edits (λ i. node_edit i ∷ []) 0 200
    ++ each_edits (λ i. node_life i ∷ []) 0 200
    ++ each_edits (edge_edits number) 0 2000
    ++ all_sign_edits 150 0 (after number 10000)

-- each line reads as its edit, and there are as many lines as edits
abbrev pub AllRead : List Text → List Edit → Type 0
AllRead [] [] = Unit {0}
AllRead [] (edit ∷ rest) = ⊥
AllRead (line ∷ lines) [] = ⊥
AllRead (line ∷ lines) (edit ∷ rest) = LineOf line (Ok (Changes edit)) × AllRead lines rest

-- each line of a script before its questions reads as its edit
abbrev pub EachEditReads : Type 0
EachEditReads = (number : ℕ) → AllRead (edits number) (changes number)
