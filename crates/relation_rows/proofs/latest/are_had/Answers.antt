use Rattle.std.proofs.Common.{sym, subst}
use Rattle.itpg_base.specs.Lists.{Among}
use Rattle.itpg_base.proofs.Lists.{among_at}
use Rattle.relation_rows.specs.Relations.{Item}
use Rattle.relation_rows.proofs.latest.are_had.Goals as goal

pub returns : goal.returns
returns c =
    let items = c.args.items.now in
    let item = c.in-Some.item.now in
    let at = c.in-Some.ensures.lookup in
    λ h x y g. (item, subst (λ (v : Item). Among items v) (sym at.1) (among_at items c.args.place item (at.3).0), c.has_ways.ensures h x y g)
