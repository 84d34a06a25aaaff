-- Moments, spans, and lists of spans as sets of moments.
use Rattle.std.specs.Prelude.{ℤ, pos, neg_ℤ, ◌+ℤ◌, ◌≤ℤ◌, ◌<ℤ◌, List, [], ◌∷◌, ◌⊎◌}
use Rattle.itpg_base.specs.declared.limits.TheConstants.{MAX_MOMENT}

-- a moment is a whole number that is no further from zero than the greatest moment
pub record IsMoment (t : ℤ) : Type 0 where
  pub least : neg_ℤ MAX_MOMENT ≤ℤ t
  pub greatest : t ≤ℤ MAX_MOMENT

-- two moments
pub record Span : Type 0 where
  pub from : ℤ
  pub to : ℤ

-- the first of them isn't after the second
abbrev pub IsSpan : Span → Type 0
IsSpan s = s.from ≤ℤ s.to

-- the span has the moment; both its ends are included
pub record Within (t : ℤ) (s : Span) : Type 0 where
  pub begun : s.from ≤ℤ t
  pub going : t ≤ℤ s.to

-- some span of the list has the moment
abbrev pub Covers : List Span → ℤ → Type 0
Covers [] t = ⊥
Covers (s ∷ rest) t = Within t s ⊎ Covers rest t

-- between a moment and the first span of the list at least one moment is missing
abbrev pub StartsApart : ℤ → List Span → Type 0
StartsApart t [] = Unit {0}
StartsApart t (s ∷ rest) = (t +ℤ pos 1) <ℤ s.from

-- the spans rise, and between two of them at least one moment is missing
abbrev pub IsCoalesced : List Span → Type 0
IsCoalesced [] = Unit {0}
IsCoalesced (s ∷ rest) = IsSpan s × StartsApart s.to rest × IsCoalesced rest
