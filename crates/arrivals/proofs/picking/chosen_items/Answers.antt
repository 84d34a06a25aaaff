use Rattle.std.proofs.Common.{◌↔◌, List, subst}
use Rattle.itpg_base.specs.Points.{Point}
use Rattle.relation_rows.specs.declared.rows.Row.{Row}
use Rattle.relation_rows.specs.Rows.{RowsHold}
use Rattle.relation_rows.specs.Relations.{ItemsHold}
use Rattle.arrivals.specs.Choosing.{Beats, Chosen}
use Rattle.arrivals.proofs.picking.chosen_items.Goals as goal

pub returns : goal.returns
returns c = subst (λ (v : List Row). (x : Point) (y : Point) → ItemsHold c.in_ok-items.items.items x y ↔ Chosen (Beats c.args.choice) (RowsHold v) x y) c.rows.ensures.value c.in_ok-items.ensures
