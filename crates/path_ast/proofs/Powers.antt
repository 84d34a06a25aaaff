-- Walks and powers of a relation between points of a graph.
use Rattle.std.proofs.Common.{◌≡◌, ℕ, zero, suc, ◌+◌, List, [], ◌∷◌, length, Option, Some, refl, sym, ap, subst, arith}
use Rattle.itpg_base.specs.Graphs.{Graph}
use Rattle.itpg_base.specs.Points.{Point, Relation, IsAt}
use Rattle.itpg_base.specs.Walks.{IsWalk}
use Rattle.path_ast.specs.Walks.{IsFromTo, Repeated, Power}

module _ (g : Graph) (R : Relation) (starts : (x y : Point) → R x y → IsAt g x) (ends : (x y : Point) → R x y → IsAt g y) where
  pub power_starts : (k : ℕ) (x y : Point) → Power g R k x y → IsAt g x
  unfolding Power
  power_starts zero x y h = h.0
  power_starts (suc k) x y h = starts x h.0 h.1

  pub power_ends : (k : ℕ) (x y : Point) → Power g R k x y → IsAt g y
  unfolding Power
  power_ends zero x y h = subst (λ (z : Point). IsAt g z) h.1 h.0
  power_ends (suc k) x y h = power_ends k h.0 y h.2

  -- a walk of k steps is one of the k-th power
  pub walk_power : (x : Point) (zs : List Point) (y : Point) → IsAt g x → IsWalk R x zs y → Power g R (length zs) x y
  unfolding Power
  walk_power x [] y at walk = (at, walk)
  walk_power x (z ∷ zs) y at walk = (z, walk.0, walk_power z zs y (ends x z walk.0) walk.1)

  pub power_walk : (k : ℕ) (x y : Point) → Power g R k x y → (zs : List Point) × (length zs ≡ k) × IsWalk R x zs y
  unfolding Power
  power_walk zero x y h = ([], refl, h.1)
  power_walk (suc k) x y h = let rest = power_walk k h.0 y h.2 in (h.0 ∷ rest.0, ap suc rest.1, (h.1, rest.2))

  -- the n-th power and then the k-th is the one of their sum
  pub power_join : (n k sum : ℕ) (x z y : Point) → sum ≡ n + k → Power g R n x z → Power g R k z y → Power g R sum x y
  unfolding Power
  power_join zero k sum x z y e h j =
      let same : k ≡ sum = omega arith in
      subst (λ (i : ℕ). Power g R i x y) same (subst (λ (v : Point). Power g R k v y) (sym h.1) j)
  power_join (suc n) k zero x z y e h j = absurd (omega arith)
  power_join (suc n) k (suc sum) x z y e h j = (h.0, h.1, power_join n k sum h.0 z y (omega arith) h.2 j)

  pub power_split : (n k sum : ℕ) (x y : Point) → sum ≡ n + k → Power g R sum x y → (z : Point) × Power g R n x z × Power g R k z y
  unfolding Power
  power_split zero k sum x y e h =
      let same : sum ≡ k = omega arith in
      (x, (power_starts sum x y h, refl), subst (λ (i : ℕ). Power g R i x y) same h)
  power_split (suc n) k zero x y e h = absurd (omega arith)
  power_split (suc n) k (suc sum) x y e h =
      let rest = power_split n k sum h.0 y (omega arith) h.2 in
      (rest.0, (h.0, h.1, rest.1), rest.2)

  -- to repeat is to take some power
  pub repeated_power : (n : ℕ) (m : Option ℕ) (x y : Point) → Repeated g R n m x y → (k : ℕ) × IsFromTo n m k × Power g R k x y
  repeated_power n m x y h = (length h.1.0, h.1.1, walk_power x h.1.0 y h.0 h.1.2)

  pub power_repeated : (n : ℕ) (m : Option ℕ) (x y : Point) → (k : ℕ) × IsFromTo n m k × Power g R k x y → Repeated g R n m x y
  power_repeated n m x y h =
      let w = power_walk h.0 x y h.2 in
      (power_starts h.0 x y h.2, (w.0, subst (λ (k : ℕ). IsFromTo n m k) (sym w.1) h.1, w.2))

  -- and to repeat it so many times and no more is to take that power
  pub alone_power : (n : ℕ) (x y : Point) → Repeated g R n (Some n) x y → Power g R n x y
  alone_power n x y h =
      let power = repeated_power n (Some n) x y h in
      let least = power.1.0 in
      let most = power.1.1 in
      subst (λ (k : ℕ). Power g R k x y) (let same : power.0 ≡ n = omega (arith, least, most) in same) power.2

  pub power_alone : (n : ℕ) (x y : Point) → Power g R n x y → Repeated g R n (Some n) x y
  power_alone n x y h = power_repeated n (Some n) x y (n, (omega arith, omega arith), h)

  pub first_power : (x y : Point) → Power g R 1 x y → R x y
  unfolding Power
  first_power x y h = subst (λ (v : Point). R x v) h.2.1 h.1

  pub power_first : (x y : Point) → R x y → Power g R 1 x y
  unfolding Power
  power_first x y h = (y, h, (ends x y h, refl))
