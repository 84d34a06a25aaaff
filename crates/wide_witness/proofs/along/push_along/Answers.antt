use Rattle.itpg_base.proofs.Lists.{among_at}
use Rattle.wide_witness.proofs.StepRows.{all_pushed, item_pushed, none_pushed}
use Rattle.wide_witness.proofs.along.push_along.Goals as goal

pub zone_along-requires-clause-formed : goal.zone_along-requires-clause-formed
zone_along-requires-clause-formed c = c.requires.formed _ (among_at c.args.rows.now c.loop-row.row-index _ c.loop-row-test.true)

pub zone_along-requires-clause-steps : goal.zone_along-requires-clause-steps
zone_along-requires-clause-steps c = c.requires.steps _ (among_at c.args.rows.now c.loop-row.row-index _ c.loop-row-test.true)

pub loop-row-init : goal.loop-row-init
loop-row-init c = none_pushed c.args.items.now.items c.args.rows.now c.args.most

pub loop-row-preserved : goal.loop-row-preserved
loop-row-preserved c =
    let pushed = c.in_ok-push.ensures.items in
    item_pushed _ _ _ c.args.rows.now _ _ _ c.args.most c.loop-row-test.true pushed c.zone_along.ensures c.loop-row.invariant

pub returns : goal.returns
returns c = all_pushed _ _ c.args.rows.now c.loop-row.row-index c.args.most c.loop-row-test.false c.loop-row.invariant
