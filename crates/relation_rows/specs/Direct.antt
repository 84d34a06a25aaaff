-- Ways by two rows whose band is that of one of them.
use Rattle.std.specs.Prelude.{◌≡◌, ◌⊎◌, ◌↔◌, ℤ, ◌≤ℤ◌, Bool, IsTrue, List}
use Rattle.itpg_base.specs.Lists.{Among}
use Rattle.itpg_base.specs.Points.{Point, Relation}
use Rattle.band_normal.specs.declared.band.Band.{Band}
use Rattle.band_normal.specs.Bands.{end_at, InBand, IsWellFormed}
use Rattle.relation_rows.specs.declared.rows.Row.{Row}
use Rattle.relation_rows.specs.declared.direct.Told.{Told}
use Rattle.relation_rows.specs.declared.direct.Told.TheVariants.{Nothing, Way, Unknown}
use Rattle.relation_rows.specs.Rows.{InRow, RowsHold, NormalRows}
use Rattle.relation_rows.specs.Apart.{IsLone, AreLone}

-- at each departure of the band, it arrives then and at no other moment
abbrev pub Rests : Band → Type 0
Rests b = (t : ℤ) → b.from ≤ℤ t → t ≤ℤ b.to → (end_at b.low t ≡ t) × (end_at b.high t ≡ t)

-- the first band arrives at a moment from which the second leads on
abbrev pub LeadsOver : Band → Band → ℤ → ℤ → Type 0
LeadsOver b c t u = (s : ℤ) × InBand b t s × InBand c s u

-- what is told of the ways by two bands is so
abbrev pub TellsWays : Told → Band → Band → Type 0
TellsWays Nothing b c = (t : ℤ) → (u : ℤ) → ¬ LeadsOver b c t u
TellsWays (Way w) b c = IsLone w × ((t : ℤ) → (u : ℤ) → InBand w t u ↔ LeadsOver b c t u)
TellsWays Unknown b c = Unit {0}

-- the first row leads to a point from which the second does
abbrev pub LeadsBy : Row → Row → Relation
LeadsBy r s x y = (m : Point) × InRow r x m × InRow s m y

-- rows of lone bands were added; and where it is true that all were told, they hold the relation's pairs
pub record AddsWays (R : Relation) (told : Bool) (old new : List Row) : Type 0 where
  pub lone : AreLone old → AreLone new
  pub holds : IsTrue told → (x y : Point) → RowsHold new x y ↔ (RowsHold old x y ⊎ R x y)

-- the rows are the relation's
pub record AreItsRows (R : Relation) (rows : List Row) : Type 0 where
  pub normal : NormalRows R rows
  pub formed : (r : Row) → Among rows r → IsWellFormed r.band
