-- Stretches of departures, and the runs of arrivals that go all along one.
use Rattle.std.specs.Prelude.{◌≡◌, ◌⊎◌, ℤ, pos, negsuc, ◌+ℤ◌, ◌≤ℤ◌, List, [], ◌∷◌, ◌++◌}
use Rattle.zone_core.specs.Zone.{Within, moment_reach}
use Rattle.band_normal.specs.declared.band.End.{End}
use Rattle.band_normal.specs.declared.band.Band.{Band}
use Rattle.band_normal.specs.declared.strips.Stretch.{Stretch}
use Rattle.band_normal.specs.declared.strips.Ends.{Ends}
use Rattle.band_normal.specs.declared.strips.Merged.{Merged}
use Rattle.itpg_base.specs.Lists.{Among, Ordered}
use Rattle.band_normal.specs.Bands.{end_at, InBand}
use Rattle.band_normal.specs.Normal.{IsRun}

-- some band of the list holds the pair
abbrev pub Holds : List Band → ℤ → ℤ → Type 0
Holds bands t u = (b : Band) × Among bands b × InBand b t u

-- u is an arrival from the low end at t to the high end
pub record InEnds (e : Ends) (t u : ℤ) : Type 0 where
  pub low : end_at e.low t ≤ℤ u
  pub high : u ≤ℤ end_at e.high t

-- both ends are in range at t
pub record AreNear (e : Ends) (t : ℤ) : Type 0 where
  pub low : Within moment_reach (end_at e.low t)
  pub high : Within moment_reach (end_at e.high t)

-- the new stretch is a part of the old one, from its first departure on
pub record IsFront (old new : Stretch) : Type 0 where
  pub from : new.from ≡ old.from
  pub some : old.from ≤ℤ new.to
  pub within : new.to ≤ℤ old.to

-- all along the stretch x is at most y and some slack
pub record StayOrdered (x y : End) (slack : ℤ) (s : Stretch) : Type 0 where
  pub at : (t : ℤ) → s.from ≤ℤ t → t ≤ℤ s.to → end_at x t ≤ℤ (end_at y t +ℤ slack)

-- all along the stretch the run ends before the next one begins, and isn't adjacent to it
abbrev pub HaveGap : Stretch → Ends → Ends → Type 0
HaveGap s e f = StayOrdered e.high f.low (negsuc 1) s

-- a run and a band are one run, as far as they stay so
pub record AreOne (run band : Ends) (along : Stretch) (m : Merged) : Type 0 where
  pub front : IsFront along m.along
  pub touch : StayOrdered band.low run.high (pos 1) m.along
  pub lower : StayOrdered run.low band.low (pos 0) m.along
  pub low : m.ends.low ≡ run.low
  pub run_high : StayOrdered run.high m.ends.high (pos 0) m.along
  pub band_high : StayOrdered band.high m.ends.high (pos 0) m.along
  pub high : (m.ends.high ≡ run.high) ⊎ (m.ends.high ≡ band.high)

-- the runs with one more band, which begins no lower than they do
pub data AddsBand (old : List Ends) (along : Stretch) (band : Ends) (runs : List Ends) (kept : Stretch) : Type 0 where
  first : old ≡ [] → runs ≡ band ∷ [] → kept ≡ along → AddsBand old along band runs kept
  joins : (front : List Ends) (run : Ends) (m : Merged) → old ≡ front ++ run ∷ [] → runs ≡ front ++ m.ends ∷ [] → kept ≡ m.along → AreOne run band along m → AddsBand old along band runs kept
  follows : (front : List Ends) (run : Ends) → old ≡ front ++ run ∷ [] → runs ≡ (front ++ run ∷ []) ++ band ∷ [] → IsFront along kept → HaveGap kept run band → AddsBand old along band runs kept

-- the runs along the stretch hold what the bands hold there
pub record AreMerged (bands : List Ends) (s : Stretch) (runs : List Ends) : Type 0 where
  pub some : (e : Ends) → Among runs e → (t : ℤ) → s.from ≤ℤ t → t ≤ℤ s.to → end_at e.low t ≤ℤ end_at e.high t
  pub near : (e : Ends) → Among runs e → AreNear e s.from
  pub begins : (e : Ends) → Among runs e → (b : Ends) × Among bands b × (b.low ≡ e.low)
  pub order : Ordered (HaveGap s) runs
  pub whole : (b : Ends) (t u : ℤ) → s.from ≤ℤ t → t ≤ℤ s.to → Among bands b → InEnds b t u → (e : Ends) × Among runs e × InEnds e t u
  pub sound : (e : Ends) (t u : ℤ) → s.from ≤ℤ t → t ≤ℤ s.to → Among runs e → InEnds e t u → (b : Ends) × Among bands b × InEnds b t u

-- the ends are runs of the relation all along the stretch, all of them, from low to high
pub record AreRuns (R : ℤ → ℤ → Type 0) (s : Stretch) (runs : List Ends) : Type 0 where
  pub each : (e : Ends) → Among runs e → (t : ℤ) → s.from ≤ℤ t → t ≤ℤ s.to → IsRun R t (end_at e.low t) (end_at e.high t)
  pub whole : (t u : ℤ) → s.from ≤ℤ t → t ≤ℤ s.to → R t u → (e : Ends) × Among runs e × InEnds e t u
  pub order : Ordered (HaveGap s) runs

-- the stretch has the departures of all the bands
pub record Covers (bands : List Band) (s : Stretch) : Type 0 where
  pub span : s.from ≤ℤ s.to
  pub from_near : Within moment_reach s.from
  pub to_near : Within moment_reach s.to
  pub from : (b : Band) → Among bands b → s.from ≤ℤ b.from
  pub to : (b : Band) → Among bands b → b.to ≤ℤ s.to

-- by the first departure
abbrev pub BeginsEarlier : Band → Band → Type 0
BeginsEarlier x y = x.from ≤ℤ y.from
