use Rattle.relation_rows.specs.Rows.{RowsHold}
use Rattle.relation_rows.specs.Relations.{ItemsHold}
use Rattle.relation_rows.proofs.Giving.{gives_alike}
use Rattle.arrivals.specs.Firsts.{Least}
use Rattle.arrivals.proofs.Choosing.{chosen_least}
use Rattle.arrivals.proofs.picking.first.Goals as goal

pub returns : goal.returns
returns c = gives_alike (ItemsHold c.in_ok-items.items.items) (Least (RowsHold c.args.rel.now))
    (λ x y h. (chosen_least (RowsHold c.args.rel.now) x y).0 ((c.in_ok-items.ensures x y).0 h))
    (λ x y h. (c.in_ok-items.ensures x y).1 ((chosen_least (RowsHold c.args.rel.now) x y).1 h))
    c.args.max_rows c.from_zones.result c.from_zones.ensures
