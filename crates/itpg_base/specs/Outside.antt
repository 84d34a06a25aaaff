-- What a source has left, what a sink holds, and how often each has failed.
use Rattle.std.specs.Prelude.{◌≡◌, ℕ, ◌+◌, ◌-◌, ◌^◌, ◌≤◌, min, List, ◌++◌, Result, OnErr}
use Rattle.std.specs.declared.option.Option.{Option}
use Rattle.std.specs.Io.KnownBytes.{Appends}

-- the count of faults rose, or stands at the last value of its counter
abbrev pub Rose : ℕ → ℕ → Type 0
Rose before now = min (before + 1) (2 ^ 64 - 1) ≤ now

-- the count never falls, and a failure comes only where it rose
pub record HasCause {T E : Type 0} (before now : ℕ) (result : Result T E) : Type 0 where
  pub later : before ≤ now
  pub failed : OnErr result (Rose before now)

-- the bytes that are told grow by a front part of the piece
pub record AppendsSome (old new : Option (List ℕ)) (piece : List ℕ) : Type 0 where
  pub taken : List ℕ
  pub rest : List ℕ
  pub split : taken ++ rest ≡ piece
  pub appends : Appends old new taken
