-- Sets of labels as lists.
use Rattle.std.specs.Prelude.{◌≡◌, ℕ, ◌-◌, ◌<◌, ◌≤◌, List, [], ◌++◌, length, take, drop, replicate, ◌↔◌, Contains, Option, Some, None}
use Rattle.std.proofs.Common.{ap, ap₂, ◌∙◌, subst, sym, take-append-drop}
use Rattle.std.proofs.lemmas.List.{length-take-le}
use Rattle.itpg_base.specs.Words.{Word, IsBefore, IsRising}
use Rattle.itpg_base.specs.declared.label_set.LabelSet.TheInside.{Inside}
use Rattle.itpg_base.specs.declared.label_set.TheConstants.{MAX_LABELS}

-- the list holds the same names as the other, whatever their order and number
abbrev pub SameNames : List Word → List Word → Type 0
SameNames xs ys = (name : Word) → Contains xs name ↔ Contains ys name

abbrev pub labels_of : Inside → List Word
labels_of s = take s.count s.names

-- the names behind those of the set are empty
pub record IsBlock (s : Inside) : Type 0 where
  pub block : length s.names ≡ MAX_LABELS
  pub some : 0 < s.count
  pub few : s.count ≤ MAX_LABELS
  pub empty : drop s.count s.names ≡ replicate (MAX_LABELS - s.count) []
  pub rising : IsRising (take s.count s.names)

abbrev pub block_of : List Word → Inside
block_of labels = record { names = labels ++ replicate (MAX_LABELS - length labels) []; count = length labels }

pub block_again : (s : Inside) → IsBlock s → block_of (labels_of s) ≡ s
block_again s h =
    let size : length (take s.count s.names) ≡ s.count = length-take-le s.count s.names (subst (λ k. s.count ≤ k) (sym h.block) h.few) in
    let back : take s.count s.names ++ replicate (MAX_LABELS - length (take s.count s.names)) [] ≡ s.names =
    ap (λ k. take s.count s.names ++ replicate (MAX_LABELS - k) []) size ∙ ap (λ t. take s.count s.names ++ t) (sym h.empty) ∙ take-append-drop s.count s.names in
    ap₂ (λ (names : List Word) (count : ℕ). let r : Inside = record { names = names; count = count } in r) back size

-- the name comes after the one that was taken last, if there is one
abbrev pub IsAfter : Option Word → Word → Type 0
IsAfter None name = Unit {0}
IsAfter (Some last) name = IsBefore last name

-- the name comes before the other, if there is one
abbrev pub IsUnder : Word → Option Word → Type 0
IsUnder name None = Unit {0}
IsUnder name (Some other) = IsBefore name other

-- of the names of the list that come after the last this one is the least
pub record IsLeastAfter (labels : List Word) (last : Option Word) (next : Word) : Type 0 where
  pub has : Contains labels next
  pub after : IsAfter last next
  pub least : (name : Word) → Contains labels name → IsAfter last name → ¬ IsBefore name next

-- the least name of the list that comes after the last, or none if none does
abbrev pub IsNext : List Word → Option Word → Option Word → Type 0
IsNext labels last None = (name : Word) → Contains labels name → ¬ IsAfter last name
IsNext labels last (Some next) = IsLeastAfter labels last next
