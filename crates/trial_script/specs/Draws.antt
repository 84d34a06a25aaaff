-- The numbers that are drawn.
use Rattle.std.specs.Prelude.{ℕ, zero, suc, ◌+◌, ◌*◌, ◌/◌, ◌%◌, ◌^◌}

-- the state that follows x
unfoldable pub stepped : ℕ → ℕ
stepped x = (x * 6364136223846793005 + 1442695040888963407) % 2 ^ 64

-- the state after so many draws from x on
unfoldable pub after : ℕ → ℕ → ℕ
after x zero = x
after x (suc k) = stepped (after x k)

-- what a draw below n gives that has set the state to x
unfoldable pub drawn : ℕ → ℕ → ℕ
drawn x n = (x / 2 ^ 33) % n

-- what a draw below n gives that comes after k others from x on
abbrev pub draw : ℕ → ℕ → ℕ → ℕ
draw x k n = drawn (after x (suc k)) n
