use Rattle.std.proofs.Common.{List, Option, sym, subst}
use Rattle.std.specs.Prelude.{IfSome}
use Rattle.itpg_base.specs.Lists.{Among, Ordered}
use Rattle.itpg_base.proofs.Lists.{append_first, ordered_first}
use Rattle.relation_rows.specs.declared.rows.Row.{Row}
use Rattle.relation_rows.specs.Rows.{RowBefore, NormalRows}
use Rattle.relation_rows.specs.Relations.{EitherHolds, HasMiddlePoint}
use Rattle.relation_rows.proofs.HalfRows.{next_run, left_among, left_ordered}
use Rattle.relation_rows.proofs.halves.by_first_runs.Goals as goal

pub by_second_parts-requires-clause-order : goal.by_second_parts-requires-clause-order
by_second_parts-requires-clause-order c =
    let order = left_ordered c.args.rows.now c.args.others.now c.loop-left.left.now c.loop-left.all c.loop-left.invariant c.requires.order in
    ordered_first RowBefore c.split_at.result.0.now c.split_at.result.1.now (subst (λ (v : List Row). Ordered RowBefore v) c.split_at.ensures.by_index.0 order)

pub by_second_parts-requires-clause-rows : goal.by_second_parts-requires-clause-rows
by_second_parts-requires-clause-rows c = λ r a.
    c.requires.rows r (left_among c.args.rows.now c.args.others.now c.loop-left.left.now c.loop-left.all c.loop-left.invariant r
    (subst (λ (v : List Row). Among v r) (sym c.split_at.ensures.by_index.0) (append_first c.split_at.result.0.now c.split_at.result.1.now r a)))

pub loop-left-preserved : goal.loop-left-preserved
loop-left-preserved c =
    let more = subst (λ (v : Option (List Row)). IfSome v (λ all. NormalRows (HasMiddlePoint c.split_at.result.0.now c.args.others.now) all)) c.in-Some.is c.in_ok-more.ensures in
    let both = subst (λ (v : Option (List Row)). IfSome v (λ all. NormalRows (EitherHolds c.loop-left.all c.in-Some.more) all)) c.in-Some-2.is c.in_ok-both.ensures in
    next_run c.args.rows.now c.args.others.now c.loop-left.left.now c.loop-left.all c.loop-left.invariant c.split_at.result.0.now c.split_at.result.1.now c.in-Some.more c.in-Some-2.both c.split_at.ensures.by_index.0 more both
