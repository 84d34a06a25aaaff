use Rattle.std.proofs.Common.{◌≡◌, ◌++◌, take}
use Rattle.band_normal.specs.Zones.{present}
use Rattle.band_normal.proofs.links.rows_linked.Given as goal

abbrev pub invariant-loop-row : goal.invariant-loop-row
invariant-loop-row l = l.complete.items ≡ l.initial.complete.items ++ present (take l.row-index l.row-items)
