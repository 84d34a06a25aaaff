-- Powers, and their unions.
use Rattle.std.specs.Prelude.{ℕ, zero, suc}

-- how meanings are composed and united, and which is neutral
pub record Algebra (M : Type 0) : Type 0 where
  pub one : M
  pub compose : M → M → M
  pub unite : M → M → M

-- the n-th power of x: `one`, composed with x n times
unfoldable pub nth_power : {M : Type 0} → Algebra M → M → ℕ → M
nth_power algebra x zero = algebra.one
nth_power algebra x (suc n) = algebra.compose (nth_power algebra x n) x

-- the union of the powers 0 to n of x
unfoldable pub union_of_powers : {M : Type 0} → Algebra M → M → ℕ → M
union_of_powers algebra x zero = algebra.one
union_of_powers algebra x (suc n) = algebra.unite (union_of_powers algebra x n) (nth_power algebra x (suc n))
