-- The text of a scope.
use Rattle.std.specs.Prelude.{ℕ, List, [], ◌∷◌, ◌++◌, codes}
use Rattle.itpg_base.specs.Words.{Word}
use Rattle.label_scope.specs.declared.scope.Scope.{Scope}
use Rattle.label_scope.specs.declared.scope.Scope.TheVariants.{All, These}

-- the labels, each behind a `+`
abbrev pub more_labels : List Word → List ℕ
more_labels [] = []
more_labels (label ∷ rest) = codes "+" ++ label ++ more_labels rest

-- the labels, joined by `+`; without a label `none`
abbrev pub labels_text : List Word → List ℕ
labels_text [] = codes "none"
labels_text (label ∷ rest) = label ++ more_labels rest

-- `all`, `none`, or the labels joined by `+`
abbrev pub text_of_scope : Scope → List ℕ
text_of_scope All = codes "all"
text_of_scope (These labels) = labels_text labels
