-- The first arrivals and the last departures of a relation.
use Rattle.std.specs.Prelude.{◌≡◌, ℤ, pos, neg_ℤ, ◌≤ℤ◌, ◌<ℤ◌, List}
use Rattle.itpg_base.specs.Points.{Relation}
use Rattle.zone_core.specs.Zone.{moment_reach}
use Rattle.band_normal.specs.declared.band.Band.{Band}
use Rattle.itpg_base.specs.Lists.{Among}
use Rattle.band_normal.specs.Bands.{end_at}

-- the relation has the pair, and from the same departure to the same object none that arrives sooner
abbrev pub Least : Relation → Relation
Least R x y = R x y × ((v : ℤ) → v <ℤ y.moment → ¬ R x (record { object = y.object; moment = v }))

-- the relation has the pair, and from the same object to the same arrival none that departs later
abbrev pub Latest : Relation → Relation
Latest R x y = R x y × ((s : ℤ) → x.moment <ℤ s → ¬ R (record { object = x.object; moment = s }) y)

-- the same of moments alone
abbrev pub LeastOf : (ℤ → ℤ → Type 0) → ℤ → ℤ → Type 0
LeastOf R t u = R t u × ((v : ℤ) → v <ℤ u → ¬ R t v)

abbrev pub LatestOf : (ℤ → ℤ → Type 0) → ℤ → ℤ → Type 0
LatestOf R t u = R t u × ((s : ℤ) → t <ℤ s → ¬ R s u)

-- the relation arrives at v, or sooner; and v is in reach
pub record IsAbove (R : ℤ → ℤ → Type 0) (t v : ℤ) : Type 0 where
  pub arrival : ℤ
  pub held : R t arrival
  pub up : arrival ≤ℤ v
  pub below : v ≤ℤ pos moment_reach

-- so it is for some element of the list
abbrev pub SomeOf : {X : Type 0} → (X → ℤ → ℤ → Type 0) → List X → ℤ → ℤ → Type 0
SomeOf {X} Q xs t u = (x : X) × Among xs x × Q x t u

-- u is the low end of the band at its departure t
pub record OnLow (b : Band) (t u : ℤ) : Type 0 where
  pub from : b.from ≤ℤ t
  pub to : t ≤ℤ b.to
  pub low : u ≡ end_at b.low t

-- time turned round: what arrives at u from t departs at -u to -t
abbrev pub Reversed : (ℤ → ℤ → Type 0) → ℤ → ℤ → Type 0
Reversed R t u = R (neg_ℤ u) (neg_ℤ t)
