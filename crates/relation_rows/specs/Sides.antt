-- When and where rows depart, or arrive.
use Rattle.std.specs.Prelude.{◌≡◌, ℕ, ℤ, List}
use Rattle.relation_rows.specs.declared.rows.Row.{Row}
use Rattle.relation_rows.specs.declared.times.Side.{Side}
use Rattle.relation_rows.specs.declared.times.Side.TheVariants.{Departure, Arrival}
use Rattle.relation_rows.specs.Times.{Departs, Arrives, DepartsIn, ArrivesIn}

-- the row departs from the object at the moment, or arrives there
abbrev pub HasTime : Side → Row → ℕ → ℤ → Type 0
HasTime Departure r o t = (r.source.0 ≡ o) × DepartsIn r.band t
HasTime Arrival r o t = (r.target.0 ≡ o) × ArrivesIn r.band t

-- some pair of the rows does
abbrev pub HaveTime : Side → List Row → ℕ → ℤ → Type 0
HaveTime Departure rows o t = Departs rows o t
HaveTime Arrival rows o t = Arrives rows o t
