use Rattle.std.proofs.Common.{◌⊎◌}
use Rattle.itpg_base.specs.Points.{Point}
use Rattle.relation_rows.specs.Rows.{RowsHold}
use Rattle.relation_rows.specs.Relations.{ItemsHold}
use Rattle.relation_rows.proofs.Covering.{both_normal}
use Rattle.relation_rows.proofs.DirectWays.{told_lone}
use Rattle.relation_rows.proofs.item_rows.relation_of.Goals as goal

pub settled_relation-requires : goal.settled_relation-requires
settled_relation-requires c = told_lone (λ (x y : Point). ItemsHold c.args.items.now x y ⊎ RowsHold c.args.rows.now x y) c.in_ok-both.both.items c.in_ok-both.ensures

pub returns : goal.returns
returns c = both_normal (λ (x y : Point). ItemsHold c.args.items.now x y ⊎ RowsHold c.args.rows.now x y) c.in_ok-both.both.items _ c.in_ok-both.ensures c.in_ok-relation.ensures
