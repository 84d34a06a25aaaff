use Rattle.std.proofs.Common.{◌≡◌, ◌⊎◌, ℕ, ◌-◌, ◌<◌, ◌≤◌, length, Some}
use Rattle.std.specs.Prelude.{slice_get}
use Rattle.relation_rows.proofs.offsets.fill.Given as goal

abbrev pub invariant-loop-begins : goal.invariant-loop-begins
invariant-loop-begins l = record {
  longer : length l.initial.begins.items ≤ length l.begins.items;
  each : (k other : ℕ) → slice_get l.begins.items k ≡ Some other → (slice_get l.initial.begins.items k ≡ Some other) ⊎ ((other ≡ l.place) × (length l.initial.begins.items ≤ k) × (k < l.count));
}

abbrev pub decreases-loop-begins : goal.decreases-loop-begins
decreases-loop-begins l = l.count - length l.begins.items
