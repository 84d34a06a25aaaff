use Rattle.relation_rows.proofs.Subtracting.{start, next_subtracted, all_subtracted, group_formed, group_keyed}
use Rattle.relation_rows.proofs.minus.only_in_first.Goals as goal

pub loop-row-init : goal.loop-row-init
loop-row-init c = start c.args.first.now c.args.second.now c.in_ok-items.items.items c.in_ok-items.ensures.items c.requires.order

pub push_left-requires-clause-group : goal.push_left-requires-clause-group
push_left-requires-clause-group c = group_keyed c.loop-row.left.now c.in-Some.row.now c.key_count.result c.key_count.ensures.same c.split_at.result.0.now c.split_at.ensures.front

pub push_left-requires-clause-formed : goal.push_left-requires-clause-formed
push_left-requires-clause-formed c = group_formed c.args.first.now c.args.second.now c.loop-row.left.now c.loop-row.items.items c.loop-row.invariant c.key_count.result c.split_at.result.0.now c.split_at.ensures.front c.requires.rows

pub push_left-requires-clause-cuts : goal.push_left-requires-clause-cuts
push_left-requires-clause-cuts c = λ r i. c.requires.cuts r ((c.rows_of_key-cuts.ensures.rows r).0 i).0

pub loop-row-preserved : goal.loop-row-preserved
loop-row-preserved c =
    next_subtracted c.args.first.now c.args.second.now c.loop-row.left.now c.loop-row.items.items c.loop-row.invariant c.in-Some.row.now c.key_count.result c.key_count.ensures.same
    c.split_at.result.0.now c.split_at.result.1.now c.rows_of_key-cuts.result.now c.split_at.ensures.front c.split_at.ensures.back c.rows_of_key-cuts.ensures.rows
    c.push_left.new.items.items c.in_ok-push_left.ensures

pub returns : goal.returns
returns c = all_subtracted c.args.first.now c.args.second.now c.loop-row.left.now c.loop-row.items.items c.in_default.ensures.value c.loop-row.invariant
