-- Which pairs of a relation are kept: those that no other pair of their source and target beats.
use Rattle.std.specs.Prelude.{◌≡◌, ◌⊎◌, ◌↔◌, ℤ, ◌<ℤ◌, List}
use Rattle.itpg_base.specs.Points.{Point, Relation}
use Rattle.zone_core.specs.declared.Bounds.{Bounds}
use Rattle.band_normal.specs.Bands.{InBand}
use Rattle.band_normal.specs.Zones.{SomeMeets}
use Rattle.relation_rows.specs.declared.rows.Row.{Row}
use Rattle.relation_rows.specs.Rows.{HasKey}
use Rattle.relation_rows.specs.Relations.{Item, ItemsHold}
use Rattle.arrivals.specs.declared.picking.Choice.{Choice}
use Rattle.arrivals.specs.declared.picking.Choice.TheVariants.{First, Last}

-- the pair of s and v is preferred to that of t and u
abbrev pub Beats : Choice → ℤ → ℤ → ℤ → ℤ → Type 0
Beats First t u s v = (s ≡ t) × (v <ℤ u)
Beats Last t u s v = (v ≡ u) × (t <ℤ s)

-- the pair is there, and none that is preferred
abbrev pub Unbeaten : (ℤ → ℤ → ℤ → ℤ → Type 0) → (ℤ → ℤ → Type 0) → ℤ → ℤ → Type 0
Unbeaten B R t u = R t u × ((s v : ℤ) → B t u s v → ¬ R s v)

-- the same of points: others of the same source and target count
abbrev pub Chosen : (ℤ → ℤ → ℤ → ℤ → Type 0) → Relation → Relation
Chosen B R x y = R x y × ((s v : ℤ) → B x.moment y.moment s v → ¬ R (record { object = x.object; moment = s }) (record { object = y.object; moment = v }))

-- the row's band has the pair
abbrev pub InBandOf : Row → ℤ → ℤ → Type 0
InBandOf r t u = InBand r.band t u

-- the new items hold what the old ones do, and from the row's source to its target what some zone meets
abbrev pub AddsBetween : Row → List Bounds → List Item → List Item → Type 0
AddsBetween r zones old new = (x y : Point) → ItemsHold new x y ↔ (ItemsHold old x y ⊎ (HasKey r x.object y.object × SomeMeets zones x.moment y.moment))
