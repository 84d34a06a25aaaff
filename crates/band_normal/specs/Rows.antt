-- Rows on their way along the departures, and strips that continue them.
use Rattle.std.specs.Prelude.{◌≡◌, ◌⊎◌, ℤ, pos, ◌+ℤ◌, ◌-ℤ◌, ◌≤ℤ◌, ◌<ℤ◌, List, [], ◌∷◌, ◌++◌, Option, None}
use Rattle.std.specs.Int.{saturate_signed, w64}
use Rattle.std.specs.Option.{option_to_list}
use Rattle.band_normal.specs.declared.band.End.{End}
use Rattle.band_normal.specs.declared.band.End.TheVariants.{Fixed, Moving}
use Rattle.band_normal.specs.declared.band.Band.{Band}
use Rattle.band_normal.specs.declared.strips.Stretch.{Stretch}
use Rattle.band_normal.specs.declared.strips.Ends.{Ends}
use Rattle.itpg_base.specs.Lists.{Among, Ordered}
use Rattle.band_normal.specs.Bands.{end_at, IsFixed, InBand, IsWellFormed}
use Rattle.band_normal.specs.Normal.{Steps, IsRow, IsStrip, IsInRange}
use Rattle.band_normal.specs.Strips.{Holds, AreRuns, Covers, BeginsEarlier}

-- the band with these ends along the stretch
abbrev pub strip : Stretch → Ends → Band
strip s e = record { from = s.from; to = s.to; low = e.low; high = e.high }

-- the strip begins where the row ends, with a run that continues the row's last one
pub record Continues (row strip : Band) : Type 0 where
  pub next : strip.from ≡ row.to +ℤ pos 1
  pub low : Steps (end_at row.low row.to) (end_at strip.low strip.from)
  pub high : Steps (end_at row.high row.to) (end_at strip.high strip.from)

-- b is a row up to the departure last; where it stops isn't settled
pub record IsRowTo (R : ℤ → ℤ → Type 0) (last : ℤ) (b : Band) : Type 0 where
  pub strip : IsStrip R b
  pub single_low : b.from ≡ b.to → IsFixed b.low
  pub single_high : b.from ≡ b.to → IsFixed b.high
  pub to : b.to ≡ last

-- no pair is in both bands
abbrev pub AreApart : Band → Band → Type 0
AreApart x y = (t u : ℤ) → InBand x t u → InBand y t u → ⊥

-- the band a is b with fixed ends, where it has one departure
pub record IsAlone (b a : Band) : Type 0 where
  pub from : a.from ≡ b.from
  pub to : a.to ≡ b.to
  pub low : (t : ℤ) → b.from ≤ℤ t → t ≤ℤ b.to → end_at a.low t ≡ end_at b.low t
  pub high : (t : ℤ) → b.from ≤ℤ t → t ≤ℤ b.to → end_at a.high t ≡ end_at b.high t
  pub single_low : b.from ≡ b.to → IsFixed a.low
  pub single_high : b.from ≡ b.to → IsFixed a.high

-- the band is the row up to the first departure of the strip, moving as it did, or as its one run and the strip's first move
pub record IsGrown (row strip grown : Band) : Type 0 where
  pub from : grown.from ≡ row.from
  pub to : grown.to ≡ strip.from
  pub long_low : row.from <ℤ row.to → grown.low ≡ row.low
  pub long_high : row.from <ℤ row.to → grown.high ≡ row.high
  pub row_low : row.from ≡ row.to → end_at grown.low row.to ≡ end_at row.low row.to
  pub row_high : row.from ≡ row.to → end_at grown.high row.to ≡ end_at row.high row.to
  pub strip_low : row.from ≡ row.to → end_at grown.low strip.from ≡ end_at strip.low strip.from
  pub strip_high : row.from ≡ row.to → end_at grown.high strip.from ≡ end_at strip.high strip.from

-- the row, made longer, has the strip's first run
pub record Agree (longer strip : Band) : Type 0 where
  pub low : end_at longer.low strip.from ≡ end_at strip.low strip.from
  pub high : end_at longer.high strip.from ≡ end_at strip.high strip.from

-- the band is the strip without its first departure
pub record IsRest (strip rest : Band) : Type 0 where
  pub from : rest.from ≡ strip.from +ℤ pos 1
  pub to : rest.to ≡ strip.to
  pub low : rest.low ≡ strip.low
  pub high : rest.high ≡ strip.high

-- the strip is one of the relation's, and the row, if any, is continued by it
pub record CanFollow (R : ℤ → ℤ → Type 0) (row : List Band) (strip : Band) : Type 0 where
  pub in_range : IsInRange R
  pub strip_runs : IsStrip R strip
  pub row_so_far : (b : Band) → Among row b → IsRowTo R b.to b
  pub continues : (b : Band) → Among row b → Continues b strip

-- a complete row, if any, and a row up to the strip's last departure hold what the row, if any, and the strip did
pub record IsJoint (R : ℤ → ℤ → Type 0) (row : List Band) (strip : Band) (complete : List Band) (next_row : Band) : Type 0 where
  pub goes_on : IsRowTo R strip.to next_row
  pub stops : (b : Band) → Among complete b → IsRow R b × (b.to ≤ℤ strip.to)
  pub whole : (t u : ℤ) → Holds row t u ⊎ InBand strip t u → Holds complete t u ⊎ InBand next_row t u
  pub sound : (t u : ℤ) → Holds complete t u ⊎ InBand next_row t u → Holds row t u ⊎ InBand strip t u
  pub apart : Ordered AreApart (complete ++ next_row ∷ [])

-- the element, if any, was taken out of the list
pub record IsTaken {X : Type 0} (old : List X) (o : Option X) (rest : List X) : Type 0 where
  pub front : List X
  pub back : List X
  pub was : old ≡ front ++ (option_to_list o ++ back)
  pub is : rest ≡ front ++ back

-- complete rows, and rows up to the departure before `next`, that hold what the relation holds before it
pub record AreRowsTo (R : ℤ → ℤ → Type 0) (next : ℤ) (complete reaching : List Band) : Type 0 where
  pub stop : (b : Band) → Among complete b → IsRow R b × (b.to <ℤ next)
  pub go_on : (b : Band) → Among reaching b → IsRowTo R (next -ℤ pos 1) b
  pub whole : (t u : ℤ) → R t u → t <ℤ next → Holds (complete ++ reaching) t u
  pub apart : Ordered AreApart (complete ++ reaching)

-- a strip of the relation begins where the rows end
pub record CanTake (R : ℤ → ℤ → Type 0) (rows : List Band) (strip : Band) : Type 0 where
  pub in_range : IsInRange R
  pub strip_runs : IsStrip R strip
  pub rows_so_far : (b : Band) → Among rows b → IsRowTo R (strip.from -ℤ pos 1) b

-- of the rows that go on, one that the strip continues, if there is one, was taken out and joined with it
pub record TakesStrip (R : ℤ → ℤ → Type 0) (complete next rest : List Band) (strip : Band) (complete' next' rest' : List Band) : Type 0 where
  pub leader : Option Band
  pub taken : IsTaken rest leader rest'
  pub continues : (b : Band) → Among (option_to_list leader) b → Continues b strip
  pub none : leader ≡ None → (b : Band) → Among rest b → Continues b strip → ⊥
  pub stopped : List Band
  pub goes_on : Band
  pub joint : IsJoint R (option_to_list leader) strip stopped goes_on
  pub complete_is : complete' ≡ complete ++ stopped
  pub next_is : next' ≡ next ++ goes_on ∷ []

-- the row ends so low that the strip, or one above it, can't continue it
abbrev pub IsUnder : Band → Band → Type 0
IsUnder row strip = (end_at row.low row.to +ℤ pos 1) <ℤ end_at strip.low strip.from

-- where both rows end, the run of the one is below that of the other
abbrev pub RunsBelow : Band → Band → Type 0
RunsBelow x y = (end_at x.low x.to +ℤ pos 1) <ℤ end_at y.low y.to

-- the row, if any, was joined with the strip, and the rows under it were passed
pub record JoinsStrip (R : ℤ → ℤ → Type 0) (complete next passed under : List Band) (row : Option Band) (strip : Band) (complete' next' passed' : List Band) : Type 0 where
  pub stopped : List Band
  pub goes_on : Band
  pub joint : IsJoint R (option_to_list row) strip stopped goes_on
  pub complete_is : complete' ≡ complete ++ stopped
  pub next_is : next' ≡ next ++ goes_on ∷ []
  pub passed_is : passed' ≡ passed ++ under

-- the rows go up to where the stretch begins, and its runs are those of the relation
pub record CanJoin (R : ℤ → ℤ → Type 0) (complete reaching : List Band) (s : Stretch) (runs : List Ends) : Type 0 where
  pub in_range : IsInRange R
  pub span : s.from ≤ℤ s.to
  pub rows : AreRowsTo R s.from complete reaching
  pub runs_along : AreRuns R s runs

-- the bands are those that are held, in order and well formed, and the stretch has all their departures
pub record CanSweep (held bands : List Band) (s : Stretch) : Type 0 where
  pub same : held ≡ bands
  pub order : Ordered BeginsEarlier bands
  pub well_formed : (b : Band) → Among bands b → IsWellFormed b
  pub covers : Covers bands s

-- rows that hold the relation's pairs, each once
pub record AreAll (R : ℤ → ℤ → Type 0) (rows : List Band) : Type 0 where
  pub each : (b : Band) → Among rows b → IsRow R b
  pub whole : (t u : ℤ) → R t u → Holds rows t u
  pub apart : Ordered AreApart rows

-- all rows of a relation whose moments are in range
pub record CanOrder (R : ℤ → ℤ → Type 0) (rows : List Band) : Type 0 where
  pub in_range : IsInRange R
  pub all : AreAll R rows

-- where the end stands at a departure, or the limit of the numbers if that lies past it
abbrev pub clamped_at : End → ℤ → ℤ
clamped_at (Fixed n) t = n
clamped_at (Moving k) t = saturate_signed w64 (t +ℤ k)

-- so for the low end at the first departure
abbrev pub first_low_of : Band → ℤ
first_low_of b = clamped_at b.low b.from
