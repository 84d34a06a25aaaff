-- Strips linked to rows.
use Rattle.std.specs.Prelude.{◌≡◌, ◌⊎◌, ℕ, ◌<◌, ◌≤◌, ℤ, pos, ◌-ℤ◌, ◌≤ℤ◌, ◌<ℤ◌, List, ◌++◌, Option, None, Some, get_or, length, slice_set}
use Rattle.std.specs.Option.{option_to_list}
use Rattle.band_normal.specs.declared.band.Band.{Band}
use Rattle.band_normal.specs.declared.links.Corner.{Corner}
use Rattle.itpg_base.specs.Lists.{Among, Ordered}
use Rattle.band_normal.specs.Bands.{end_at}
use Rattle.band_normal.specs.Normal.{IsStrip, IsInRange}
use Rattle.band_normal.specs.Strips.{Holds, BeginsEarlier}
use Rattle.band_normal.specs.Rows.{clamped_at, AreApart, IsJoint, Continues, IsRowTo}

-- strips that hold the relation's pairs, each once
pub record AreStrips (R : ℤ → ℤ → Type 0) (strips : List Band) : Type 0 where
  pub each : (b : Band) → Among strips b → IsStrip R b
  pub whole : (t u : ℤ) → R t u → Holds strips t u
  pub apart : Ordered AreApart strips

-- the low end at the last departure, or the limit of the numbers if that lies past it
abbrev pub last_low_of : Band → ℤ
last_low_of b = clamped_at b.low b.to

abbrev pub last_corner : Band → Corner
last_corner b = record { departure = b.to; low = last_low_of b }

-- the least corner that a row continued by the strip may end with
abbrev pub corner_before : Band → Corner
corner_before b = record { departure = b.from -ℤ pos 1; low = end_at b.low b.from -ℤ pos 1 }

-- by the last departure, then by the low end there
abbrev pub EndsBefore : Band → Corner → Type 0
EndsBefore b c = (b.to <ℤ c.departure) ⊎ ((b.to ≡ c.departure) × (last_low_of b <ℤ c.low))

abbrev pub EndsUpTo : Band → Band → Type 0
EndsUpTo x y = (x.to <ℤ y.to) ⊎ ((x.to ≡ y.to) × (last_low_of x ≤ℤ last_low_of y))

-- the rows under way without the one that was taken from its place
abbrev pub cleared : List (Option Band) → ℕ → Option Band → List (Option Band)
cleared slots at None = slots
cleared slots at (Some b) = slice_set slots at None

-- what is known when a strip is linked: rows under way are rows up to where they end
pub record CanLink (R : ℤ → ℤ → Type 0) (ends : List Band) (slots : List (Option Band)) (strip : Band) : Type 0 where
  pub in_range : IsInRange R
  pub strip_runs : IsStrip R strip
  pub order : Ordered EndsUpTo ends
  pub some : length slots ≡ length ends
  pub here : Among ends strip
  pub rows_so_far : (k : ℕ) (b : Band) → get_or slots k None ≡ Some b → IsRowTo R b.to b

-- the strip was joined to the row that it continues, if that stands at its place, and what goes on put where the strip ends
pub record LinksStrip (R : ℤ → ℤ → Type 0) (complete : List Band) (slots : List (Option Band)) (from at : ℕ) (strip : Band) (complete' : List Band) (slots' : List (Option Band)) : Type 0 where
  pub row : Option Band
  pub is_there : (b : Band) → row ≡ Some b → get_or slots from None ≡ Some b
  pub continues : (b : Band) → row ≡ Some b → Continues b strip
  pub none : row ≡ None → (b : Band) → get_or slots from None ≡ Some b → Continues b strip → ⊥
  pub stopped : List Band
  pub goes_on : Band
  pub joint : IsJoint R (option_to_list row) strip stopped goes_on
  pub complete_is : complete' ≡ complete ++ stopped
  pub slots_is : slots' ≡ slice_set (cleared slots from row) at (Some goes_on)

-- the places that the search gave, and what came of the strip
pub record LinksAt (R : ℤ → ℤ → Type 0) (ends complete : List Band) (slots : List (Option Band)) (strip : Band) (complete' : List Band) (slots' : List (Option Band)) : Type 0 where
  pub from : ℕ
  pub at : ℕ
  pub from_within : from ≤ length ends
  pub from_before : (i : ℕ) (d : Band) → i < from → EndsBefore (get_or ends i d) (corner_before strip)
  pub from_after : (i : ℕ) (d : Band) → from ≤ i → i < length ends → EndsBefore (get_or ends i d) (corner_before strip) → ⊥
  pub at_within : at ≤ length ends
  pub at_before : (i : ℕ) (d : Band) → i < at → EndsBefore (get_or ends i d) (last_corner strip)
  pub at_after : (i : ℕ) (d : Band) → at ≤ i → i < length ends → EndsBefore (get_or ends i d) (last_corner strip) → ⊥
  pub links : LinksStrip R complete slots from at strip complete' slots'

-- the strips of a relation by their first departure, and by where they end
pub record CanLinkAll (R : ℤ → ℤ → Type 0) (starts ends : List Band) : Type 0 where
  pub in_range : IsInRange R
  pub strips : AreStrips R starts
  pub begins : Ordered BeginsEarlier starts
  pub order : Ordered EndsUpTo ends
  pub apart : Ordered AreApart ends
  pub there : (b : Band) → Among starts b → Among ends b
  pub back : (b : Band) → Among ends b → Among starts b
