use Rattle.std.proofs.lemmas.List.{take_all}
use Rattle.itpg_base.proofs.Lists.{among_at}
use Rattle.band_normal.proofs.PartLemmas.{zones_more}
use Rattle.band_normal.proofs.zones.zones_of.Goals as goal

pub zone_of-requires : goal.zone_of-requires
zone_of-requires c = c.requires _ (among_at _ _ _ c.loop-row-test.true)

pub loop-row-preserved : goal.loop-row-preserved
loop-row-preserved c = λ t u. zones_more _ _ _ _ _ _ c.loop-row-test.true c.in_ok-push.ensures.items c.zone_of.ensures c.loop-row.invariant t u

pub returns : goal.returns
returns c = rw (take_all c.loop-row.row-index c.args.rows.now c.loop-row-test.false) at c.loop-row.invariant
