use Rattle.itpg_base.proofs.Lists.{among_at}
use Rattle.relation_rows.proofs.Pushing.{zone_more, zones_all}
use Rattle.wide_witness.proofs.along.push_rows.Goals as goal

pub zone_of-requires : goal.zone_of-requires
zone_of-requires c = c.requires _ (among_at c.args.rows.now c.loop-row.row-index _ c.loop-row-test.true)

pub loop-row-preserved : goal.loop-row-preserved
loop-row-preserved c =
    let pushed = c.in_ok-push.ensures.items in
    zone_more _ _ _ c.args.rows.now _ _ _ c.loop-row-test.true pushed c.zone_of.ensures c.loop-row.invariant

pub returns : goal.returns
returns c = zones_all _ _ c.args.rows.now c.loop-row.row-index c.loop-row-test.false c.loop-row.invariant
