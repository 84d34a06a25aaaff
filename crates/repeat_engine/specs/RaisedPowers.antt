-- A power, kept with the next one where the further ones are these two in turn.
use Rattle.std.specs.Prelude.{◌≡◌, ℕ, ◌+◌, Option, Some, None}
use Rattle.repeat_engine.specs.declared.power_chain.Raised.{Raised}
use Rattle.repeat_engine.specs.Powers.{Algebra, nth_power}

-- one step further
abbrev pub turned_with : {V : Type 0} → V → Option V → Raised V → Type 0
turned_with value (Some next) s = (s.value ≡ next) × (s.next ≡ Some value)
turned_with value None s = (s.value ≡ value) × (s.next ≡ None)

abbrev pub IsTurned : {V : Type 0} → Raised V → Raised V → Type 0
IsTurned r s = turned_with r.value r.next s

-- it is the power of one more, and that of two more is alike to the power itself
pub record IsNext {M : Type 0} (Alike : M → M → Type 0) (Own Fits : M → Type 0) (algebra : Algebra M) (x : M) (n : ℕ) (d : M) : Type 0 where
  pub own : Own d
  pub fits : Fits d
  pub is : Alike d (nth_power algebra x (n + 1))
  pub back : Alike (nth_power algebra x (n + 2)) (nth_power algebra x n)
