-- Items in order, and rows gathered from the first of them on.
use Rattle.std.specs.Prelude.{◌≡◌, ◌⊎◌, ◌==◌, ◌&&◌, ◌<◌, Bool, ℕ, List, Result, Ok, Err}
use Rattle.itpg_base.specs.Lists.{Among}
use Rattle.zone_core.specs.declared.Bounds.{Bounds}
use Rattle.band_normal.specs.declared.band.Band.{Band}
use Rattle.band_normal.specs.Bands.{IsWellFormed}
use Rattle.band_normal.specs.Normal.{Normal}
use Rattle.band_normal.specs.Zones.{SomeMeets}
use Rattle.relation_rows.specs.declared.rows.Row.{Row}
use Rattle.relation_rows.specs.declared.rows.RelFault.{RelFault}
use Rattle.relation_rows.specs.declared.rows.RelFault.TheVariants.{Memory, Wide}
use Rattle.relation_rows.specs.Rows.{KeyBefore}
use Rattle.relation_rows.specs.Relations.{Item}

-- the two have one source and one target
abbrev pub HaveOneKey : Item → Item → Type 0
HaveOneKey i j = (i.0.0 ≡ j.0.0) × (i.1.0 ≡ j.1.0)

-- the same as a test
abbrev pub have_one_key : Item → Item → Bool
have_one_key i j = (i.0.0 == j.0.0) && (i.1.0 == j.1.0)

-- by source and target, the first doesn't come after the second
abbrev pub ItemUpTo : Item → Item → Type 0
ItemUpTo i j = KeyBefore i.0.0 i.1.0 j.0.0 j.1.0 ⊎ HaveOneKey i j

-- the bands are the normal list of what the zones have
pub record AreBandsOf (zones : List Bounds) (bands : List Band) : Type 0 where
  pub normal : Normal (SomeMeets zones) bands
  pub formed : (b : Band) → Among bands b → IsWellFormed b

-- rows were counted past the limit, so it isn't the greatest number of all
abbrev pub IsCounted : Result (List Row) RelFault → ℕ → Type 0
IsCounted (Ok rows) limit = Unit {0}
IsCounted (Err Memory) limit = Unit {0}
IsCounted (Err Wide) limit = limit < 18446744073709551615
