use Rattle.arrivals.specs.Choosing.{Beats}
use Rattle.arrivals.proofs.Choosing.{start, next_chosen, all_chosen, group_formed}
use Rattle.arrivals.proofs.picking.items_of.Goals as goal

pub loop-row-init : goal.loop-row-init
loop-row-init c = start (Beats c.args.choice) c.args.rows.now c.new-items.result.items c.new-items.ensures.items c.requires.order

pub chosen_of-requires : goal.chosen_of-requires
chosen_of-requires c = group_formed (Beats c.args.choice) c.args.rows.now c.loop-row.left.now c.loop-row.items.items c.loop-row.invariant c.key_count.result c.split_at.result.0.now c.split_at.ensures.front c.requires.formed

pub loop-row-preserved : goal.loop-row-preserved
loop-row-preserved c =
    next_chosen (Beats c.args.choice) c.args.rows.now c.loop-row.left.now c.split_at.result.0.now c.split_at.result.1.now c.loop-row.items.items c.push_items.new.items.items c.loop-row.invariant c.in-Some.row.now c.key_count.result
    c.split_at.ensures.front c.split_at.ensures.back c.key_count.ensures.same c.key_count.ensures.later
    c.in_ok-zones.zones.items c.deref.result.now c.deref.ensures.value c.in_ok-zones.ensures c.in_ok-push_items.ensures

pub returns : goal.returns
returns c = all_chosen (Beats c.args.choice) c.args.rows.now c.loop-row.left.now c.loop-row.items.items c.in_default.ensures.value c.loop-row.invariant
