use Rattle.std.proofs.Common.{List, subst}
use Rattle.itpg_base.specs.Points.{Point}
use Rattle.relation_rows.specs.Relations.{Item, ItemsHold}
use Rattle.relation_rows.specs.Ways.{GoesBy}
use Rattle.relation_rows.proofs.Going.{had_all, pushed_by}
use Rattle.relation_rows.proofs.ways.push_way.Goals as goal

pub returns-then-are_had : goal.returns-then-are_had
returns-then-are_had c =
    had_all c.args.source c.args.zone.now c.args.next.now c.args.items.now.items
    (subst (λ (v : List Item). (x y : Point) → GoesBy c.args.source c.args.zone.now c.args.next.now x y → ItemsHold v x y) c.deref.ensures.value (c.are_had.ensures c.if-are_had.true))

pub returns : goal.returns
returns c = pushed_by c.args.source c.args.zone.now c.args.next.now c.args.items.now.items c.push_there.new.items.items c.way_by-way.result c.way_by-way.ensures c.in_ok-push_there.ensures
