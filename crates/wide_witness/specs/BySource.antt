-- Where steps lead from one source.
use Rattle.std.specs.Prelude.{◌≡◌, ℕ, List}
use Rattle.itpg_base.specs.Lists.{Among}
use Rattle.itpg_base.specs.Points.{Relation}
use Rattle.relation_rows.specs.declared.rows.Row.{Row}
use Rattle.wide_witness.specs.Along.{IsAlong}

-- from the source, the one relation leads x to itself, and at most n of the steps lead on to the other
abbrev pub IsAlongFrom : List Row → List Row → ℕ → ℕ → Relation
IsAlongFrom one steps o n x y = IsAlong one steps n x y × (x.object ≡ o)

-- some of the rows leads from the object
abbrev pub IsSource : List Row → ℕ → Type 0
IsSource rows o = (r : Row) × Among rows r × (r.source.0 ≡ o)
