use Rattle.std.proofs.Common.{◌↔◌, ◌⊎◌, take}
use Rattle.itpg_base.specs.Points.{Point}
use Rattle.relation_rows.specs.Relations.{ItemsHold}
use Rattle.relation_rows.specs.Ways.{GoesOn}
use Rattle.relation_rows.proofs.ways.push_scanned.Given as goal

abbrev pub invariant-loop-next : goal.invariant-loop-next
invariant-loop-next l = (x : Point) → (y : Point) → ItemsHold l.items.items x y ↔ (ItemsHold l.initial.items.items x y ⊎ GoesOn l.fn.row (take l.next-index l.fn.here) x y)
