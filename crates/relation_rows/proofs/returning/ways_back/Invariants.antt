use Rattle.std.proofs.Common.{◌≡◌, ◌↔◌, take}
use Rattle.itpg_base.specs.Points.{Point}
use Rattle.relation_rows.specs.Relations.{ItemsHold, HasMiddlePoint}
use Rattle.relation_rows.proofs.returning.ways_back.Given as goal

abbrev pub invariant-loop-row : goal.invariant-loop-row
invariant-loop-row l = (x : Point) → (y : Point) → ItemsHold l.ways.items x y ↔ (HasMiddlePoint (take l.row-index l.fn.rows) l.fn.second x y × (x.object ≡ y.object))
