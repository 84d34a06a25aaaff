-- Runs of arrivals, and what it means that a list of bands is normal for a relation of two moments.
use Rattle.std.specs.Prelude.{◌≡◌, ◌⊎◌, ℤ, pos, neg_ℤ, ◌+ℤ◌, ◌-ℤ◌, ◌≤ℤ◌, ◌<ℤ◌, List}
use Rattle.zone_core.specs.Zone.{moment_reach}
use Rattle.band_normal.specs.declared.band.Band.{Band}
use Rattle.itpg_base.specs.Lists.{Among, Ordered}
use Rattle.band_normal.specs.Bands.{end_at, IsFixed, InBand}

-- low..high is a run of the arrivals at t: each is there, and neither neighbour is
pub record IsRun (R : ℤ → ℤ → Type 0) (t low high : ℤ) : Type 0 where
  pub some : low ≤ℤ high
  pub each : (u : ℤ) → low ≤ℤ u → u ≤ℤ high → R t u
  pub below : ¬ R t (low -ℤ pos 1)
  pub above : ¬ R t (high +ℤ pos 1)

-- y is x, or greater by one
abbrev pub Steps : ℤ → ℤ → Type 0
Steps x y = (y ≡ x) ⊎ (y ≡ x +ℤ pos 1)

-- b is one row of a normal list
pub record IsRow (R : ℤ → ℤ → Type 0) (b : Band) : Type 0 where
  -- it has departures, and at each of them its arrivals are one run
  pub span : b.from ≤ℤ b.to
  pub runs : (t : ℤ) → b.from ≤ℤ t → t ≤ℤ b.to → IsRun R t (end_at b.low t) (end_at b.high t)
  -- a row of one departure has two fixed ends
  pub single_low : b.from ≡ b.to → IsFixed b.low
  pub single_high : b.from ≡ b.to → IsFixed b.high
  -- where a run continues the row's last one, the row has more departures and its ends move otherwise
  pub stops : (low high : ℤ) → IsRun R (b.to +ℤ pos 1) low high → Steps (end_at b.low b.to) low → Steps (end_at b.high b.to) high
      → (b.from <ℤ b.to) × (¬ ((end_at b.low (b.to +ℤ pos 1) ≡ low) × (end_at b.high (b.to +ℤ pos 1) ≡ high)))

-- by the first departure, then by the low end there
abbrev pub IsBefore : Band → Band → Type 0
IsBefore x y = (x.from <ℤ y.from) ⊎ ((x.from ≡ y.from) × (end_at x.low x.from <ℤ end_at y.low y.from))

-- the list of bands is normal for the relation
pub record Normal (R : ℤ → ℤ → Type 0) (rows : List Band) : Type 0 where
  -- each pair is in a row, and in no other; that the rows hold no other pair follows from their runs
  pub whole : (t u : ℤ) → R t u → (b : Band) × Among rows b × InBand b t u
  pub once : (x y : Band) (t u : ℤ) → Among rows x → Among rows y → InBand x t u → InBand y t u → x ≡ y
  pub each : (b : Band) → Among rows b → IsRow R b
  pub order : Ordered IsBefore rows

-- each departure and each arrival of the relation lies from one moment to another
pub record LiesWithin (low high : ℤ) (R : ℤ → ℤ → Type 0) : Type 0 where
  pub from : (t u : ℤ) → R t u → low ≤ℤ t
  pub to : (t u : ℤ) → R t u → t ≤ℤ high
  pub first : (t u : ℤ) → R t u → low ≤ℤ u
  pub last : (t u : ℤ) → R t u → u ≤ℤ high

-- each moment of the relation is in range
abbrev pub IsInRange : (ℤ → ℤ → Type 0) → Type 0
IsInRange R = LiesWithin (neg_ℤ (pos moment_reach)) (pos moment_reach) R

-- at each of its departures the band's arrivals are one run
pub record IsStrip (R : ℤ → ℤ → Type 0) (b : Band) : Type 0 where
  pub span : b.from ≤ℤ b.to
  pub runs : (t : ℤ) → b.from ≤ℤ t → t ≤ℤ b.to → IsRun R t (end_at b.low t) (end_at b.high t)
