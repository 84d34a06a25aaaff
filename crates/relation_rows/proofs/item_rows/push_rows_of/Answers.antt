use Rattle.std.proofs.Common.{List, ◌≡◌, ◌++◌, subst}
use Rattle.zone_core.specs.Zone.{Meets}
use Rattle.band_normal.specs.declared.band.Band.{Band}
use Rattle.itpg_base.specs.Lists.{Among}
use Rattle.band_normal.specs.Bands.{IsWellFormed}
use Rattle.band_normal.specs.Normal.{Normal}
use Rattle.relation_rows.specs.Rows.{rows_at}
use Rattle.relation_rows.proofs.Covering.{alone_is, zone_added}
use Rattle.relation_rows.proofs.item_rows.push_rows_of.Goals as goal

pub returns : goal.returns
returns c =
    let adds = c.in_ok-push_bands_of.ensures in
    let same = alone_is _ _ _ c.clear.ensures.items adds.is in
    zone_added c.args.item.now c.args.rows.now.items c.push_bands.new.rows.items c.push_bands_of.new.bands.items
    (subst (λ (v : List Band). Normal (Meets c.args.item.now.2) v) same adds.normal)
    (subst (λ (v : List Band). (b : Band) → Among v b → IsWellFormed b) same adds.formed)
    (subst (λ (v : List Band). c.push_bands.new.rows.items ≡ c.args.rows.now.items ++ rows_at c.args.item.now.0.0 c.args.item.now.1.0 v) c.deref.ensures.value c.in_ok-push_bands.ensures)
