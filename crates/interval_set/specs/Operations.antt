-- Operations on two sets of moments, worked out from the first moment to the last.
use Rattle.std.specs.Prelude.{◌↔◌, ℤ, ◌≤ℤ◌, List, [], ◌∷◌, Bool, IsTrue, Option, None, Some, ◌⊎◌}
use Rattle.std.specs.Int.{int_min}
use Rattle.itpg_base.specs.Spans.{Span, Covers}
use Rattle.interval_set.specs.declared.sweep.Operation.{Operation}
use Rattle.interval_set.specs.declared.sweep.Operation.TheVariants.{Meet, Join, Minus}

-- whether a moment is in the result, from whether it is in the one set and in the other
abbrev pub Keeps : Operation → Type 0 → Type 0 → Type 0
Keeps Meet own other = own × other
Keeps Join own other = own ⊎ other
Keeps Minus own other = own × (¬ other)

-- the first span of the list, if any, ends at the moment or later
abbrev pub EndsFrom : ℤ → List Span → Type 0
EndsFrom t [] = Unit {0}
EndsFrom t (s ∷ rest) = t ≤ℤ s.to

-- from the one moment to the other the list has all moments or none, and no span that has begun ends between them
pub record IsStretch (spans : List Span) (at : ℤ) (here : Bool) (last : ℤ) : Type 0 where
  pub some : at ≤ℤ last
  pub same : (t : ℤ) → at ≤ℤ t → t ≤ℤ last → IsTrue here ↔ Covers spans t
  pub ends : EndsFrom last spans

-- no moment of the set comes before the one that is given, and the set has none if that is missing
abbrev pub NothingBefore : (ℤ → Type 0) → Option ℤ → Type 0
NothingBefore S None = (t : ℤ) → S t → ⊥
NothingBefore S (Some next) = (t : ℤ) → S t → next ≤ℤ t

-- the earlier of two moments that may be missing
abbrev pub earlier_of : Option ℤ → Option ℤ → Option ℤ
earlier_of (Some a) (Some b) = Some (int_min a b)
earlier_of (Some a) None = Some a
earlier_of None b = b
