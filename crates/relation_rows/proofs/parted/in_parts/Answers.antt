use Rattle.relation_rows.proofs.EvenParts.{none_read, read_even, read_rest}
use Rattle.relation_rows.proofs.parted.in_parts.Goals as goal

pub loop-left-init : goal.loop-left-init
loop-left-init c = none_read c.args.rows.now _ _ c.new-even.ensures.items c.new-rest.ensures.items

pub loop-left-preserved-then-is_long : goal.loop-left-preserved-then-is_long
loop-left-preserved-then-is_long c =
    let extended = c.in_ok-extend_from_slice.ensures.items in
    read_even _ _ _ _ c.requires c.loop-left.invariant _ _ c.split_at.ensures.by_index.0 _ extended

pub loop-left-preserved : goal.loop-left-preserved
loop-left-preserved c =
    let extended = c.in_ok-extend_from_slice-2.ensures.items in
    read_rest _ _ _ _ c.requires c.loop-left.invariant _ _ c.split_at.ensures.by_index.0 _ extended
