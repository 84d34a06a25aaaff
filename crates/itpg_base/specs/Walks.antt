-- Walks along a relation, such as one between points.
use Rattle.std.specs.Prelude.{◌≡◌, ℕ, ◌<◌, List, [], ◌∷◌}

-- a walk of k steps from x to y is k + 1 points, namely x and the k that are listed: R leads from each to the next, and
-- the last is y. So a walk of no steps is one point
abbrev pub IsWalk : {P : Type 0} → (P → P → Type 0) → P → List P → P → Type 0
IsWalk R x [] y = x ≡ y
IsWalk R x (z ∷ zs) y = R x z × IsWalk R z zs y

-- the points inside are fewer than some count: they are numbered below it, no two alike
pub record AreFewer {P : Type 0} (count : ℕ) (Inside : P → Type 0) (number : P → ℕ) : Type 0 where
  pub below : (x : P) → Inside x → number x < count
  pub apart : (x y : P) → Inside x → Inside y → number x ≡ number y → x ≡ y
