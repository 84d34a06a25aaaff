use Rattle.std.proofs.Common.{ℕ, ◌≤◌, ◌<◌, ◌-◌, length, get_or}
use Rattle.band_normal.specs.declared.band.Band.{Band}
use Rattle.band_normal.specs.Links.{EndsBefore}
use Rattle.band_normal.proofs.links.place.Given as goal

abbrev pub invariant-loop-from : goal.invariant-loop-from
invariant-loop-from l = record {
  sides : l.from ≤ l.to;
  within : l.to ≤ length l.ends;
  before : (i : ℕ) → (d : Band) → i < l.from → EndsBefore (get_or l.ends i d) l.corner;
  after : (i : ℕ) → (d : Band) → l.to ≤ i → i < length l.ends → EndsBefore (get_or l.ends i d) l.corner → ⊥;
}

abbrev pub decreases-loop-from : goal.decreases-loop-from
decreases-loop-from l = l.to - l.from
