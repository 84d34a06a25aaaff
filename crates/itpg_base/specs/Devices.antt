-- What the devices in memory are.
use Rattle.std.specs.Prelude.{ℕ, ◌-◌, ◌^◌, min, List, [], ◌++◌, zero, suc}

-- what a counter of 64 bits holds, which stands still at its last value
abbrev pub saturate : ℕ → ℕ
saturate n = min n (2 ^ 64 - 1)

-- a source in memory: the bytes that are left, how many it gives at a call at most, the numbers of the calls that fail,
-- and how often it was called and has failed
pub record Supply : Type 0 where
  pub left : List ℕ
  pub chunk : ℕ
  pub fail : List ℕ
  pub calls : ℕ
  pub faults : ℕ

-- a sink in memory: the bytes that it holds, the room left, how many bytes a failing call takes at most,
-- the numbers of the calls that fail, and how often it was called and has failed
pub record Store : Type 0 where
  pub held : List ℕ
  pub room : ℕ
  pub most : ℕ
  pub fail : List ℕ
  pub calls : ℕ
  pub faults : ℕ

-- how many bytes were written and their sum, both modulo 2^64
pub record Tally : Type 0 where
  pub bytes : ℕ
  pub sum : ℕ

-- a piece so many times
unfoldable pub repeated : ℕ → List ℕ → List ℕ
repeated zero piece = []
repeated (suc n) piece = piece ++ repeated n piece
