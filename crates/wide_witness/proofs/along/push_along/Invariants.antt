use Rattle.std.proofs.Common.{◌↔◌, ◌⊎◌, take}
use Rattle.itpg_base.specs.Points.{Point}
use Rattle.relation_rows.specs.Relations.{ItemsHold}
use Rattle.wide_witness.specs.Along.{AlongRows}
use Rattle.wide_witness.proofs.along.push_along.Given as goal

abbrev pub invariant-loop-row : goal.invariant-loop-row
invariant-loop-row l = (x : Point) → (y : Point) → ItemsHold l.items.items x y ↔ (ItemsHold l.initial.items.items x y ⊎ AlongRows (take l.row-index l.fn.rows) l.fn.most x y)
