-- Names as their bytes, and sets of labels.
use Rattle.std.specs.Prelude.{◌≡◌, ℕ, ◌≤◌, ◌<◌, List, [], ◌∷◌, length}
use Rattle.std.specs.Cmp.Lexicographic.{slice_cmp}
use Rattle.std.specs.Ordering.{nat_cmp}
use Rattle.std.specs.declared.cmp.Ordering.TheVariants.{Less}
use Rattle.itpg_base.specs.declared.label_set.TheConstants.{MAX_LABELS}

-- a name, as its bytes
abbrev pub Word : Type 0
Word = List ℕ

-- the first name comes before the second, byte by byte
abbrev pub IsBefore : Word → Word → Type 0
IsBefore a b = slice_cmp nat_cmp a b ≡ Less

-- the name comes before the first of the list
abbrev pub StartsBefore : Word → List Word → Type 0
StartsBefore a [] = Unit {0}
StartsBefore a (b ∷ rest) = IsBefore a b

-- the names rise, so that no two are equal
abbrev pub IsRising : List Word → Type 0
IsRising [] = Unit {0}
IsRising (a ∷ rest) = StartsBefore a rest × IsRising rest

-- how many labels an object may have
abbrev pub max_labels : ℕ
max_labels = MAX_LABELS

-- a set of labels: at least one and at most as many as are allowed, rising
pub record IsLabels (labels : List Word) : Type 0 where
  pub some : 0 < length labels
  pub few : length labels ≤ max_labels
  pub rising : IsRising labels
