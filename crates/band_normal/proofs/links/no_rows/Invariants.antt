use Rattle.std.proofs.Common.{ℕ, ◌≡◌, length, get_or, None}
use Rattle.band_normal.proofs.links.no_rows.Given as goal

abbrev pub invariant-loop-i : goal.invariant-loop-i
invariant-loop-i l = record {
  len : length l.slots.items ≡ l.i;
  none : (k : ℕ) → get_or l.slots.items k None ≡ None;
}
