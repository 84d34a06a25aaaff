use Rattle.relation_rows.proofs.Going.{row_formed}
use Rattle.relation_rows.proofs.Leaving.{no_bands, band_more, all_bands}
use Rattle.relation_rows.proofs.minus.zones_of_bands.Goals as goal

pub zone_of-requires : goal.zone_of-requires
zone_of-requires c = row_formed c.args.rows.now c.loop-row.row-index _ c.loop-row-test.true c.requires

pub loop-row-init : goal.loop-row-init
loop-row-init c = no_bands c.args.rows.now c.in_ok-zones.zones.items c.in_ok-zones.ensures.items

pub loop-row-preserved : goal.loop-row-preserved
loop-row-preserved c =
    let pushed = c.in_ok-push.ensures.items in
    band_more c.args.rows.now c.loop-row.row-index _ c.loop-row-test.true c.zone_of.result c.zone_of.ensures c.loop-row.zones.items c.push.new.self.items pushed c.loop-row.invariant

pub returns : goal.returns
returns c = all_bands c.args.rows.now c.loop-row.row-index c.loop-row.zones.items c.loop-row-test.false c.loop-row.invariant
