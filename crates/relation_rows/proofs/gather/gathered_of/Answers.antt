use Rattle.std.proofs.Common.{sym, subst, List}
use Rattle.itpg_base.specs.Lists.{Ordered}
use Rattle.relation_rows.specs.Gathering.{ItemUpTo}
use Rattle.relation_rows.specs.Answers.{Gives}
use Rattle.relation_rows.specs.Relations.{Item, ItemsHold}
use Rattle.relation_rows.proofs.Giving.{gives_alike}
use Rattle.relation_rows.proofs.Sorting.{items_to, items_from}
use Rattle.relation_rows.proofs.gather.gathered_of.Goals as goal

pub gathered-requires : goal.gathered-requires
gathered-requires c = subst (λ (v : List Item). Ordered ItemUpTo v) (sym c.deref.ensures.value) c.sort_items.ensures.order

pub returns-clause-gives : goal.returns-clause-gives
returns-clause-gives c =
    gives_alike (ItemsHold c.sort_items.new.items.items) (ItemsHold c.args.items.items)
    (items_from c.args.items.items c.sort_items.new.items.items c.sort_items.ensures.same)
    (items_to c.args.items.items c.sort_items.new.items.items c.sort_items.ensures.same)
    c.args.room c.gathered.result (subst (λ (v : List Item). Gives c.gathered.result (ItemsHold v) c.args.room) c.deref.ensures.value c.gathered.ensures.gives)
