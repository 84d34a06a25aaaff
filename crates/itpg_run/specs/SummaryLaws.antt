-- Laws of the summary.
use Rattle.std.specs.Prelude.{◌≡◌, ℕ}
use Rattle.itpg_run.specs.Summary.{Told, IsSummary}

-- a trial has at most one summary
abbrev pub OneSummary : Type 0
OneSummary = (limit number : ℕ) (x y : Told) → IsSummary limit number x → IsSummary limit number y → x ≡ y

-- and it has one
abbrev pub SomeSummary : Type 0
SomeSummary = (limit number : ℕ) → (told : Told) × IsSummary limit number told
