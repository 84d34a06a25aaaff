use Rattle.std.proofs.Common.{◌≡◌, ◌++◌, take}
use Rattle.relation_rows.specs.Rows.{rows_at}
use Rattle.relation_rows.proofs.gather.push_bands.Given as goal

abbrev pub invariant-loop-band : goal.invariant-loop-band
invariant-loop-band l = l.rows.items ≡ l.initial.rows.items ++ rows_at l.fn.source.0 l.fn.target.0 (take l.band-index l.fn.bands)
