-- What a zone means: the pairs of moments that meet six bounds.
use Rattle.std.specs.Prelude.{◌≡◌, ℕ, ℤ, pos, neg_ℤ, ◌+ℤ◌, ◌-ℤ◌, ◌≤ℤ◌, ◌↔◌, ◌⊎◌, Option, Some, None, IsSome, List, [], ◌∷◌}
use Rattle.zone_core.specs.declared.Bounds.{Bounds}

-- z lies within n of zero
pub record Within (n : ℕ) (z : ℤ) : Type 0 where
  pub above : neg_ℤ (pos n) ≤ℤ z
  pub below : z ≤ℤ pos n

-- z lies from low to high, both included
pub record Between (low high z : ℤ) : Type 0 where
  pub above : low ≤ℤ z
  pub below : z ≤ℤ high

-- how far from zero a bound on departures or arrivals may lie
abbrev pub moment_reach : ℕ
moment_reach = 4000000000000

-- how far from zero a bound on differences may lie
abbrev pub difference_reach : ℕ
difference_reach = 8000000000000

-- the departure t and the arrival u meet the six bounds
pub record Meets (k : Bounds) (t u : ℤ) : Type 0 where
  pub from : k.a ≤ℤ t
  pub to : t ≤ℤ k.b
  pub low : k.c ≤ℤ u
  pub high : u ≤ℤ k.d
  pub least : k.e ≤ℤ (u -ℤ t)
  pub most : (u -ℤ t) ≤ℤ k.f

-- the six bounds lie where no sum of them overflows
pub record IsNear (k : Bounds) : Type 0 where
  pub a : Within moment_reach k.a
  pub b : Within moment_reach k.b
  pub c : Within moment_reach k.c
  pub d : Within moment_reach k.d
  pub e : Within difference_reach k.e
  pub f : Within difference_reach k.f

-- each of the six bounds is met by some pair that meets them all
pub record IsMet (k : Bounds) : Type 0 where
  pub from : (u : ℤ) × Meets k k.a u
  pub to : (u : ℤ) × Meets k k.b u
  pub low : (t : ℤ) × Meets k t k.c
  pub high : (t : ℤ) × Meets k t k.d
  pub least : (t : ℤ) × Meets k t (t +ℤ k.e)
  pub most : (t : ℤ) × Meets k t (t +ℤ k.f)

-- each of the six bounds is met, as inequalities between the bounds alone
pub record IsTight (k : Bounds) : Type 0 where
  pub departures : k.a ≤ℤ k.b
  pub arrivals : k.c ≤ℤ k.d
  pub differences : k.e ≤ℤ k.f
  pub first_low : (k.a +ℤ k.e) ≤ℤ k.c
  pub low_first : k.c ≤ℤ (k.a +ℤ k.f)
  pub last_high : (k.b +ℤ k.e) ≤ℤ k.d
  pub high_last : k.d ≤ℤ (k.b +ℤ k.f)
  pub low_last : k.c ≤ℤ (k.b +ℤ k.e)
  pub first_high : (k.a +ℤ k.f) ≤ℤ k.d

-- each low bound is at or below its high bound
pub record IsInOrder (k : Bounds) : Type 0 where
  pub departures : k.a ≤ℤ k.b
  pub arrivals : k.c ≤ℤ k.d
  pub differences : k.e ≤ℤ k.f

-- the same pairs meet both
abbrev pub HaveSamePairs : Bounds → Bounds → Type 0
HaveSamePairs k o = (t u : ℤ) → Meets k t u ↔ Meets o t u

-- no other bounds that are each met have the same pairs
abbrev pub IsDeterminedByPairs : Bounds → Type 0
IsDeterminedByPairs k = (o : Bounds) → IsMet o → HaveSamePairs o k → o ≡ k

-- the pair (t, u) is in the zone, if there is one
abbrev pub Holds : Option Bounds → ℤ → ℤ → Type 0
Holds None t u = ⊥
Holds (Some k) t u = Meets k t u

-- some pair stands in the relation R
pub record SomePair (R : ℤ → ℤ → Type 0) : Type 0 where
  pub departure : ℤ
  pub arrival : ℤ
  pub related : R departure arrival

-- the zone has exactly the pairs of the relation R, and is missing exactly if R has none
pub record IsZoneOf (R : ℤ → ℤ → Type 0) (o : Option Bounds) : Type 0 where
  pub pairs : (t u : ℤ) → Holds o t u ↔ R t u
  pub some : IsSome o ↔ SomePair R

-- the pair (t, u) meets the bounds k and o
abbrev pub MeetsBoth : Bounds → Bounds → ℤ → ℤ → Type 0
MeetsBoth k o t u = Meets k t u × Meets o t u

-- the pair (t, u) meets the bounds k, and not o
abbrev pub MeetsFirstOnly : Bounds → Bounds → ℤ → ℤ → Type 0
MeetsFirstOnly k o t u = Meets k t u × (¬ Meets o t u)

-- some zone of the list holds the pair (t, u)
abbrev pub SomeHolds : List (Option Bounds) → ℤ → ℤ → Type 0
SomeHolds [] t u = ⊥
SomeHolds (o ∷ os) t u = Holds o t u ⊎ SomeHolds os t u

-- no pair is in two zones of the list
abbrev pub AreApart : List (Option Bounds) → Type 0
AreApart [] = Unit {0}
AreApart (o ∷ os) = ((t u : ℤ) → Holds o t u → SomeHolds os t u → ⊥) × AreApart os
