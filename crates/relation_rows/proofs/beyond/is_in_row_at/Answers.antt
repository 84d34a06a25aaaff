use Rattle.std.proofs.Common.{sym, subst}
use Rattle.itpg_base.specs.Lists.{Among}
use Rattle.itpg_base.proofs.Lists.{among_at}
use Rattle.relation_rows.specs.declared.rows.Row.{Row}
use Rattle.relation_rows.proofs.beyond.is_in_row_at.Goals as goal

pub is_in_row-requires : goal.is_in_row-requires
is_in_row-requires c =
    let at = c.in-Some.ensures.lookup in
    c.requires c.in-Some.row.now (subst (λ (v : Row). Among c.args.rows.now v) (sym at.1) (among_at c.args.rows.now c.args.place c.in-Some.row.now (at.3).0))

pub returns : goal.returns
returns c =
    let at = c.in-Some.ensures.lookup in
    λ h x y i. (c.in-Some.row.now, subst (λ (v : Row). Among c.args.rows.now v) (sym at.1) (among_at c.args.rows.now c.args.place c.in-Some.row.now (at.3).0), c.is_in_row.ensures h x y i)
