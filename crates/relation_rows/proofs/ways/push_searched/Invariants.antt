use Rattle.std.proofs.Common.{◌↔◌, ◌⊎◌, take}
use Rattle.itpg_base.specs.Points.{Point}
use Rattle.relation_rows.specs.Relations.{ItemsHold}
use Rattle.relation_rows.specs.Ways.{GoesOnBy}
use Rattle.relation_rows.proofs.ways.push_searched.Given as goal

abbrev pub invariant-loop-leg : goal.invariant-loop-leg
invariant-loop-leg l = (x : Point) → (y : Point) → ItemsHold l.items.items x y ↔ (ItemsHold l.initial.items.items x y ⊎ GoesOnBy l.fn.row (take l.leg-index l.leg-items) x y)
