-- The lines of a script without the edits between two of them.
use Rattle.std.specs.Prelude.{◌≡◌, ◌⊎◌, ℕ, ◌+◌, ◌<◌, List, [], ◌∷◌, Ok}
use Rattle.itpg_edit.specs.declared.edit.Edit.{Edit}
use Rattle.edit_reader.specs.Readings.{Changes}
use Rattle.edit_reader.specs.Lines.{LineOf}

-- the line is an edit, whether the machine accepts it or not
abbrev pub IsEditLine : List ℕ → Type 0
IsEditLine line = (edit : Edit) × LineOf line (Ok (Changes edit))

-- an edit is made blank, and each other line stays
abbrev pub IsStilled : List ℕ → List ℕ → Type 0
IsStilled line now = (IsEditLine line × (now ≡ [])) ⊎ ((¬ IsEditLine line) × (now ≡ line))

-- of these lines, of which the first has the number k, each edit after the one numbered i and before the one numbered j is made
-- blank, and all else stays
abbrev pub AreStill : ℕ → ℕ → ℕ → List (List ℕ) → List (List ℕ) → Type 0
AreStill k i j [] [] = Unit {0}
AreStill k i j [] (now ∷ others) = ⊥
AreStill k i j (line ∷ lines) [] = ⊥
AreStill k i j (line ∷ lines) (now ∷ others) =
    ((i < k) × (k < j) → IsStilled line now) × (¬ ((i < k) × (k < j)) → now ≡ line) × AreStill (k + 1) i j lines others
