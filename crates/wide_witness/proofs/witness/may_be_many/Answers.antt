use Rattle.itpg_base.proofs.Lists.{among_at}
use Rattle.wide_witness.proofs.witness.may_be_many.Goals as goal

pub zone_of-requires : goal.zone_of-requires
zone_of-requires c = c.requires _ (among_at c.args.rows.now c.loop-row.row-index _ c.loop-row-test.true)
