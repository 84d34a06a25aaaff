-- What the bands of one list hold and those of another don't.
use Rattle.std.specs.Prelude.{ℤ, List}
use Rattle.band_normal.specs.declared.band.Band.{Band}
use Rattle.band_normal.specs.Strips.{Holds}

abbrev pub OnlyFirst : List Band → List Band → ℤ → ℤ → Type 0
OnlyFirst first second t u = Holds first t u × (¬ Holds second t u)
