-- Zones and bands side by side: the pairs of several, and a band's bounds.
use Rattle.std.specs.Prelude.{◌≡◌, ◌⊎◌, ℤ, pos, neg_ℤ, List, [], ◌∷◌, ◌++◌, Option, Some, None}
use Rattle.zone_core.specs.declared.Bounds.{Bounds}
use Rattle.zone_core.specs.Zone.{Meets}
use Rattle.band_normal.specs.declared.band.End.{End}
use Rattle.band_normal.specs.declared.band.End.TheVariants.{Fixed, Moving}
use Rattle.band_normal.specs.declared.band.Band.{Band}
use Rattle.itpg_base.specs.Lists.{Among}
use Rattle.band_normal.specs.Bands.{IsWellFormed}
use Rattle.band_normal.specs.Normal.{Normal}

-- some zone of the list holds the pair
abbrev pub SomeMeets : List Bounds → ℤ → ℤ → Type 0
SomeMeets [] t u = ⊥
SomeMeets (z ∷ zs) t u = Meets z t u ⊎ SomeMeets zs t u

-- what the full places hold
abbrev pub present : {X : Type 0} → List (Option X) → List X
present [] = []
present (None ∷ os) = present os
present (Some x ∷ os) = x ∷ present os

-- the empty places come last
abbrev pub EmptyComeLast : {X : Type 0} → List (Option X) → Type 0
EmptyComeLast [] = Unit {0}
EmptyComeLast (None ∷ os) = present os ≡ []
EmptyComeLast (Some x ∷ os) = EmptyComeLast os

-- k with this low end
abbrev pub with_low : End → Bounds → Bounds
with_low (Fixed n) k = record k { c = n }
with_low (Moving n) k = record k { e = n }

-- k with this high end
abbrev pub with_high : End → Bounds → Bounds
with_high (Fixed n) k = record k { d = n }
with_high (Moving n) k = record k { f = n }

-- the bounds that limit the departures alone
abbrev pub departing : ℤ → ℤ → Bounds
departing from to = record {
  a = from;
  b = to;
  c = neg_ℤ (pos 4000000000000);
  d = pos 4000000000000;
  e = neg_ℤ (pos 8000000000000);
  f = pos 8000000000000;
}

-- the bounds of a band's pairs
abbrev pub bounds_of : Band → Bounds
bounds_of b = with_high b.high (with_low b.low (departing b.from b.to))

-- the zone's normal bands were added
pub record AddsBands (zone : Bounds) (old new : List Band) : Type 0 where
  pub more : List Band
  pub is : new ≡ old ++ more
  pub normal : Normal (Meets zone) more
  pub formed : (b : Band) → Among more b → IsWellFormed b
