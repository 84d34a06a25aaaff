use Rattle.std.proofs.Common.{List, sym, subst}
use Rattle.itpg_base.specs.Lists.{Ordered}
use Rattle.relation_rows.specs.Gathering.{ItemUpTo}
use Rattle.relation_rows.specs.Relations.{Item, ItemsHold}
use Rattle.relation_rows.specs.Rows.{NormalRows}
use Rattle.relation_rows.proofs.Alike.{rows_alike}
use Rattle.relation_rows.proofs.Sorting.{items_to, items_from}
use Rattle.relation_rows.proofs.gather.gathered_all.Goals as goal

pub gathered-requires : goal.gathered-requires
gathered-requires c = subst (λ (v : List Item). Ordered ItemUpTo v) (sym c.deref.ensures.value) c.sort_by_target.ensures.order

pub returns-in-Ok : goal.returns-in-Ok
returns-in-Ok c =
    let sorted = c.sort_by_target.new.items.items in
    rows_alike (ItemsHold sorted) (ItemsHold c.args.items.items) (items_from c.args.items.items sorted c.sort_by_target.ensures.same) (items_to c.args.items.items sorted c.sort_by_target.ensures.same)
    c.in-Ok.relation (subst (λ (v : List Item). NormalRows (ItemsHold v) c.in-Ok.relation) c.deref.ensures.value c.in-Ok.ensures.gives.0)
