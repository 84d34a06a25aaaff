-- What is left of zones and of rows without others.
use Rattle.std.specs.Prelude.{ℤ, List}
use Rattle.zone_core.specs.declared.Bounds.{Bounds}
use Rattle.band_normal.specs.Zones.{SomeMeets}
use Rattle.relation_rows.specs.declared.rows.Row.{Row}
use Rattle.itpg_base.specs.Points.{Point}
use Rattle.relation_rows.specs.Rows.{HasKey}
use Rattle.relation_rows.specs.Uniting.{SomeHasBand}

-- some zone has the pair of moments, and no cut has it
abbrev pub OnlyFirstMeets : List Bounds → List Bounds → ℤ → ℤ → Type 0
OnlyFirstMeets zones cuts t u = SomeMeets zones t u × (¬ SomeMeets cuts t u)

-- the band of some row has the pair of moments, and that of no cut has it
abbrev pub OnlyFirstHasBand : List Row → List Row → ℤ → ℤ → Type 0
OnlyFirstHasBand rows cuts t u = SomeHasBand rows t u × (¬ SomeHasBand cuts t u)

-- the points are of the row's source and target, and some zone has the pair of their moments
abbrev pub HasAcross : Row → List Bounds → Point → Point → Type 0
HasAcross row zones x y = HasKey row x.object y.object × SomeMeets zones x.moment y.moment

-- the points are of the row's source and target, and the pair of their moments is left of the group's bands
abbrev pub IsLeftAcross : Row → List Row → List Row → Point → Point → Type 0
IsLeftAcross row group cuts x y = HasKey row x.object y.object × OnlyFirstHasBand group cuts x.moment y.moment
