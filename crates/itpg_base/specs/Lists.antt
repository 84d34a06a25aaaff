-- What is in a list, and lists in order, for elements of any type.
use Rattle.std.specs.Prelude.{◌≡◌, ◌⊎◌, List, [], ◌∷◌}

-- x is in the list
abbrev pub Among : {X : Type 0} → List X → X → Type 0
Among [] x = ⊥
Among (y ∷ ys) x = (y ≡ x) ⊎ Among ys x

-- each element comes before all that follow it
abbrev pub Ordered : {X : Type 0} → (X → X → Type 0) → List X → Type 0
Ordered Before [] = Unit {0}
Ordered {X} Before (x ∷ xs) = ((y : X) → Among xs y → Before x y) × Ordered Before xs
