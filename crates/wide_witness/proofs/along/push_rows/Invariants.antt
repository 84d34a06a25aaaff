use Rattle.std.proofs.Common.{◌↔◌, ◌⊎◌, take}
use Rattle.itpg_base.specs.Points.{Point}
use Rattle.relation_rows.specs.Rows.{RowsHold}
use Rattle.relation_rows.specs.Relations.{ItemsHold}
use Rattle.wide_witness.proofs.along.push_rows.Given as goal

abbrev pub invariant-loop-row : goal.invariant-loop-row
invariant-loop-row l = (x : Point) → (y : Point) → ItemsHold l.items.items x y ↔ (ItemsHold l.initial.items.items x y ⊎ RowsHold (take l.row-index l.fn.rows) x y)
