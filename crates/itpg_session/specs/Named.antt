-- Lists of what has a name.
use Rattle.std.specs.Prelude.{List, [], ◌∷◌, nat_eq, if◌then◌else◌}
use Rattle.std.specs.Cmp.Lexicographic.{pointwise}
use Rattle.itpg_base.specs.Words.{Word}

-- the elements but those of this name, in their order
abbrev pub without_named : {X : Type 0} → (X → Word) → Word → List X → List X
without_named name_of name [] = []
without_named name_of name (x ∷ rest) = if pointwise nat_eq (name_of x) name then without_named name_of name rest else x ∷ without_named name_of name rest
