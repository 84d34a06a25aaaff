use Rattle.std.proofs.Common.{List, drop, sym, subst}
use Rattle.itpg_base.specs.Lists.{Among}
use Rattle.relation_rows.specs.declared.rows.Row.{Row}
use Rattle.relation_rows.specs.Rows.{HasKey, RowsHold}
use Rattle.relation_rows.specs.Apart.{AreLone}
use Rattle.relation_rows.specs.Direct.{AreItsRows}
use Rattle.relation_rows.proofs.Settling.{HasSettled, next_settled, left_lone}
use Rattle.relation_rows.proofs.settle.settled.Goals as goal

pub push_part-requires-clause-lone : goal.push_part-requires-clause-lone
push_part-requires-clause-lone c = subst AreLone (sym c.split_at.ensures.front) (left_lone c.args.ways.now c.loop-first.left.now c.loop-first.done.items c.loop-first.invariant c.requires.lone c.part_len.result)

pub push_part-requires-clause-key : goal.push_part-requires-clause-key
push_part-requires-clause-key c =
    subst (λ (v : List Row). (r : Row) → Among v r → HasKey r c.in-Some.first.now.source.0 c.in-Some.first.now.target.0) (sym c.split_at.ensures.front) c.part_len.ensures.key

pub loop-first-preserved : goal.loop-first-preserved
loop-first-preserved c =
    let added = c.in_ok-push_part.ensures in
    let settled = next_settled c.args.ways.now c.loop-first.left.now c.loop-first.done.items c.loop-first.invariant c.part_len.result c.part_len.ensures.apart added.0
    (subst (λ (v : List Row). AreItsRows (RowsHold v) added.0) c.split_at.ensures.front added.2) in
    subst (λ (v : List Row). HasSettled c.args.ways.now v c.push_part.new.done.items) (sym c.split_at.ensures.back)
    (subst (HasSettled c.args.ways.now (drop c.part_len.result c.loop-first.left.now)) (sym added.1) settled)
