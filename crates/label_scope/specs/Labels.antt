-- Rising lists of labels.
use Rattle.std.specs.Prelude.{List, [], ◌∷◌}
use Rattle.std.specs.Cmp.Lexicographic.{slice_cmp}
use Rattle.std.specs.Ordering.{nat_cmp}
use Rattle.std.specs.declared.cmp.Ordering.{Ordering}
use Rattle.std.specs.declared.cmp.Ordering.TheVariants.{Less, Equal, Greater}
use Rattle.itpg_base.specs.Words.{Word}

-- a label at its place before a list that rises from another label: before it, in its stead, or behind it
abbrev pub placed : Ordering → Word → Word → List Word → List Word → List Word
placed Less label first rest behind = label ∷ first ∷ rest
placed Equal label first rest behind = first ∷ rest
placed Greater label first rest behind = first ∷ behind

-- the list with the label at its place
abbrev pub with_label : List Word → Word → List Word
with_label [] label = label ∷ []
with_label (first ∷ rest) label = placed (slice_cmp nat_cmp label first) label first rest (with_label rest label)

-- the labels of either list: the first with each label of the second at its place
abbrev pub labels_of_either : List Word → List Word → List Word
labels_of_either labels [] = labels
labels_of_either labels (more ∷ rest) = labels_of_either (with_label labels more) rest
